use Rattle.std.proofs.Common.{◌||◌, ap, arith, sym, true≢false, ◌∙◌}
use Rattle.tree_plans.specs.Changes.{is_strip_dirty}
use Rattle.tree_plans.proofs.clients.a_strip_that_the_plan_goes_over_comes_before_the_end.Goals as goal

pub prove-unreachable-requires : goal.prove-unreachable-requires
prove-unreachable-requires c =
    true≢false (sym c.if-is_met.true ∙ c.is_met.ensures
    ∙ ap (λ x. x || is_strip_dirty c.args.object.now.changes.now 5) (c.met_end.ensures.unread 5 (omega arith) (omega arith))
    ∙ c.met_end.ensures.clean 5 (omega arith) (omega arith))
