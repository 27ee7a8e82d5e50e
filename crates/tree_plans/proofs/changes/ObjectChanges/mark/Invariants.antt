use Rattle.std.proofs.Common.{◌≡◌, ℕ, ◌&&◌}
use Rattle.std.specs.Prelude.{nat_le, nat_lt, if◌then◌else◌}
use Rattle.base.specs.declared.record_state.RecordState.TheVariants.{Dirty}
use Rattle.tree_plans.specs.Changes.{state_at}
use Rattle.tree_plans.proofs.changes.ObjectChanges.mark.Given as goal

abbrev pub invariant-loop-index : goal.invariant-loop-index
invariant-loop-index l = record {
  same : l.self.length ≡ l.fn.self.length;
  marked : (r : ℕ) → state_at l.self r ≡ (if nat_le l.first r && nat_lt r l.index then Dirty else state_at l.fn.self r);
}
