use Rattle.plan_clients.proofs.Promises.{err_both, only_memory}
use Rattle.plan_clients.proofs.trees.free_blocks_suffice_for_the_places_written.Goals as goal

pub returns : goal.returns
returns g c = err_both c.plan.result _ _ _ (λ e full refused.
    only_memory e _ _ c.requires.room (λ no_space. full.fewer no_space c.requires.in_range) refused) c.plan.ensures.full c.plan.ensures.refused
