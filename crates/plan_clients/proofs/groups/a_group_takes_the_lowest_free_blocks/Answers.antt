use Rattle.std.proofs.Common.{◌∙◌, List, ℕ, ap, take}
use Rattle.std.proofs.lemmas.Result.{IfOk-weaker}
use Rattle.base.specs.common.Rising.{rising}
use Rattle.plan_clients.proofs.groups.a_group_takes_the_lowest_free_blocks.Goals as goal

pub returns : goal.returns
returns g c = IfOk-weaker c.plan_group.result _ _ (λ p told two.
    told ∙ ap (λ (n : ℕ). take n (rising c.args.source.now.free.now.free)) two ∙ ap (λ (l : List ℕ). take 2 l) c.requires.free) c.plan_group.ensures.taken
