use Rattle.std.proofs.Common.{ap}
use Rattle.pool_tables.specs.Shows.{pool_shown}
use Rattle.pool_tables.specs.declared.pool.PoolTables.{PoolTables}
use Rattle.pool_core_clients.proofs.steps.a_read_changes_nothing_that_is_shown.Goals as goal

pub returns-clause-unchanged : goal.returns-clause-unchanged
returns-clause-unchanged g c = ap (λ (p : PoolTables). pool_shown p) c.read.ensures.tables
