use Rattle.pool_tables.specs.Shows.{pool_shown}
use Rattle.pool_tables_clients.proofs.Callers.{started_contents}
use Rattle.pool_tables_clients.proofs.syncs.a_sync_writes_what_its_group_left.Goals as goal

pub returns : goal.returns
returns g c = started_contents (pool_shown c.args.pool.now) (pool_shown c.start_sync.new.self) c.args.moment c.start_sync.result c.start_sync.ensures.start.step
