use Rattle.std.proofs.Common.{◌≡◌, ◌≤◌}
use Rattle.space_maps.specs.Nodes.{bit_in, count_true}
use Rattle.space_maps.proofs.bits.count_bits.Given as goal

abbrev pub invariant-loop-index : goal.invariant-loop-index
invariant-loop-index l = record {
  count : l.count ≡ count_true (bit_in l.payload) l.index;
  most : l.count ≤ l.index;
}
