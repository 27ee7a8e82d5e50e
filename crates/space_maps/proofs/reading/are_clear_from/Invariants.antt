use Rattle.std.proofs.Common.{◌≡◌, ◌≤◌, ◌<◌, ℕ, false}
use Rattle.space_maps.specs.Nodes.{bit_in}
use Rattle.space_maps.proofs.reading.are_clear_from.Given as goal

abbrev pub invariant-loop-index : goal.invariant-loop-index
invariant-loop-index l = (k : ℕ) → l.first ≤ k → k < l.index → bit_in l.payload k ≡ false
