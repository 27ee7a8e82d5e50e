use Rattle.pool_tables.specs.Shows.{pool_shown}
use Rattle.pool_tables_clients.proofs.Callers.{write_suspends}
use Rattle.pool_tables_clients.proofs.logs.a_refused_log_write_suspends_the_pool.Goals as goal

pub returns : goal.returns
returns g c = write_suspends (pool_shown c.args.pool.now) (pool_shown c.log_write.new.self) c.log_write.result c.requires.passes c.log_write.ensures.step
