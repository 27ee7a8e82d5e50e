use Rattle.std.proofs.Common.{◌≡◌, ◌<◌, ◌+◌, ℕ, cond, length, take}
use Rattle.base.specs.formats.Geometry.{block_address}
use Rattle.base.specs.steps.Locks.{is_in}
use Rattle.space_maps.specs.Nodes.{bit_in}
use Rattle.space_maps.proofs.regions.put_blocks.Given as goal

abbrev pub invariant-loop-address : goal.invariant-loop-address
invariant-loop-address l = record {
  size : length l.payload ≡ 4032;
  bits : (k : ℕ) → k < 32256 → bit_in l.payload k ≡ cond (is_in (block_address (l.first + k)) (take l.address-index l.addresses)) l.value (bit_in l.fn.payload k);
}
