use Rattle.std.proofs.Common.{refl}
use Rattle.tree_plans.proofs.Progress.{goes_back}
use Rattle.tree_plans.proofs.planner.Planner.clear.Goals as goal

pub returns-clause-cleared : goal.returns-clause-cleared
returns-clause-cleared c = record {
  goes = λ free. goes_back _ _ _ _ _ _ (rw (← c.reserve.ensures.items) c.give_back.ensures.kept);
  cleared = record { none = refl; freed = c.give_back.ensures.added };
  frees = rw (← c.reserve.ensures.items) c.give_back.ensures.only;
  once = rw (← c.reserve.ensures.items) c.give_back.ensures.once;
  none_taken = refl;
}
