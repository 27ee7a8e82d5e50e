use Rattle.records.specs.Records.{record_fields}
use Rattle.pool_tables.specs.Shows.{pool_shown}
use Rattle.pool_tables_clients.proofs.Callers.{begun_one}
use Rattle.pool_tables_clients.proofs.logs.a_long_record_is_begun.Goals as goal

pub returns-clause-count : goal.returns-clause-count
returns-clause-count g c =
    (begun_one (pool_shown c.args.pool.now) (pool_shown c.log_write.new.self) c.log_write.result (record_fields c.args.pending.now) c.requires.begun c.requires.one c.requires.long c.log_write.ensures.step).0

pub returns-clause-left : goal.returns-clause-left
returns-clause-left g c =
    (begun_one (pool_shown c.args.pool.now) (pool_shown c.log_write.new.self) c.log_write.result (record_fields c.args.pending.now) c.requires.begun c.requires.one c.requires.long c.log_write.ensures.step).1
