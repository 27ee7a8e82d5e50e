use Rattle.std.proofs.Common.{◌∙◌, List, ℕ, ap, take}
use Rattle.std.proofs.lemmas.Result.{IfOk-weaker}
use Rattle.tree_plans.specs.TreePlans.{free_addresses}
use Rattle.plan_clients.proofs.trees.a_plan_takes_the_lowest_free_blocks.Goals as goal

pub returns : goal.returns
returns g c = IfOk-weaker c.plan.result _ _ (λ p told two.
    told.taken ∙ ap (λ (n : ℕ). take n (free_addresses c.args.source.now)) two ∙ ap (λ (l : List ℕ). take 2 l) c.requires.free) c.plan.ensures.taken
