use Rattle.std.proofs.Common.{◌∙◌, refl}
use Rattle.pool_tables_clients.proofs.commits.a_plan_of_two_blocks_is_above_a_limit_of_one.Goals as goal

pub returns : goal.returns
returns c = c.is_above_limit.ensures ∙ (rw (c.requires.allowed, c.requires.charged, c.requires.limit) refl)
