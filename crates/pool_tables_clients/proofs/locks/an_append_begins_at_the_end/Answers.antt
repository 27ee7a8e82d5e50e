use Rattle.pool_tables.specs.Shows.{pool_shown}
use Rattle.pool_tables_clients.proofs.Callers.{append_low}
use Rattle.pool_tables_clients.proofs.locks.an_append_begins_at_the_end.Goals as goal

pub returns : goal.returns
returns c = append_low (pool_shown c.args.pool.now) (pool_shown c.lock_append.new.self) c.args.owner.0 7 100 c.lock_append.result c.requires c.lock_append.ensures.step
