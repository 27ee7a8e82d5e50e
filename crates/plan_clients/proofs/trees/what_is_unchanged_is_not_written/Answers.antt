use Rattle.std.proofs.lemmas.Result.{IfOk-weaker}
use Rattle.std.proofs.Common.{ap, is_some}
use Rattle.tree_plans.specs.Changes.{has_two_levels}
use Rattle.tree_plans.specs.Parts.{group_in}
use Rattle.plan_clients.proofs.Promises.{none_taken, none_written_by}
use Rattle.plan_clients.proofs.trees.what_is_unchanged_is_not_written.Goals as goal

pub returns : goal.returns
returns g c = IfOk-weaker c.plan.result _ _ (λ p told clean unchanged absent.
    none_taken _ _ p.blocks.items _ (told.order c.requires.in_range)
    (none_written_by (group_in c.args.source.now (g.O.ObjectSource.objects c.args.after.now) c.args.objects.now.entries) clean unchanged (λ n. ap is_some (absent n)) (λ n. ap has_two_levels (absent n)))) c.plan.ensures.taken
