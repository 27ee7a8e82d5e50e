use Rattle.std.proofs.Common.{◌≡◌, ◌<◌, ◌+◌, ℕ, length}
use Rattle.space.specs.FreeSets.{is_free}
use Rattle.space_maps.specs.Nodes.{bit_in}
use Rattle.space_maps.proofs.regions.free_bits.Given as goal

abbrev pub invariant-loop-index : goal.invariant-loop-index
invariant-loop-index l = record {
  size : length l.payload ≡ 4032;
  bits : (k : ℕ) → k < l.index → bit_in l.payload k ≡ is_free (l.first + k) l.free;
}
