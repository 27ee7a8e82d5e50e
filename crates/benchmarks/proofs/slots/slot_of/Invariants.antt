use Rattle.std.proofs.Common.{◌≡◌, ◌≤◌, ◌⊎◌}
use Rattle.benchmarks.proofs.Halvings.{IsHalved}
use Rattle.benchmarks.proofs.slots.slot_of.Given as goal

-- what is left of the time after these halvings, of which each left 16 at least
abbrev pub invariant-loop-halvings : goal.invariant-loop-halvings
invariant-loop-halvings l = IsHalved l.time l.rest l.halvings × ((l.halvings ≡ 0) ⊎ (16 ≤ l.rest))
