use Rattle.std.proofs.Common.{◌∙◌, refl}
use Rattle.pool_tables.specs.Shows.{pool_shown}
use Rattle.pool_tables_clients.proofs.Callers.{written_not_durable}
use Rattle.pool_tables_clients.proofs.logs.a_written_record_is_not_durable_yet.Goals as goal

pub returns : goal.returns
returns g c =
    c.durable.ensures ∙ written_not_durable (pool_shown c.args.pool.now) (pool_shown c.log_write.new.self) c.log_write.result 7 9 c.requires.none (rw c.requires.synced refl) c.log_write.ensures.step
