use Rattle.std.proofs.Common.{refl}
use Rattle.pool_tables.specs.Shows.{pool_shown}
use Rattle.pool_tables_clients.proofs.Passed.{flushed}
use Rattle.pool_tables_clients.proofs.ready.a_written_log_block_is_flushed.Goals as goal

pub returns : goal.returns
returns g c =
    flushed (pool_shown c.args.pool.now) (pool_shown c.log_flush.new.self) c.log_flush.result (rw (c.requires.running, c.requires.written) refl) c.log_flush.ensures.step
