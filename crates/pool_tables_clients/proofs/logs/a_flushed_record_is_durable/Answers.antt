use Rattle.std.proofs.Common.{◌∙◌, refl}
use Rattle.pool_tables.specs.Shows.{pool_shown}
use Rattle.pool_tables_clients.proofs.Callers.{flushed_durable}
use Rattle.pool_tables_clients.proofs.logs.a_flushed_record_is_durable.Goals as goal

pub returns : goal.returns
returns g c =
    c.durable.ensures ∙ flushed_durable (pool_shown c.args.pool.now) (pool_shown c.log_flush.new.self) 7 9 _ c.requires refl c.in_ok-log_flush.ensures.step
