use Rattle.pool_tables.specs.Shows.{pool_shown}
use Rattle.pool_tables_clients.proofs.Callers.{written_one}
use Rattle.pool_tables_clients.proofs.logs.a_pending_record_is_written.Goals as goal

pub returns-clause-count : goal.returns-clause-count
returns-clause-count g c =
    (written_one (pool_shown c.args.pool.now) (pool_shown c.log_write.new.self) c.log_write.result c.requires.begun c.requires.one c.requires.short c.log_write.ensures.step).0

pub returns-clause-left : goal.returns-clause-left
returns-clause-left g c =
    (written_one (pool_shown c.args.pool.now) (pool_shown c.log_write.new.self) c.log_write.result c.requires.begun c.requires.one c.requires.short c.log_write.ensures.step).1
