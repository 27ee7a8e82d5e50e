use Rattle.std.proofs.Common.{◌∙◌, refl}
use Rattle.pool_core_clients.proofs.steps.a_synced_commit_is_durable.Goals as goal

pub returns : goal.returns
returns g c = c.durable.ensures ∙ rw c.requires refl
