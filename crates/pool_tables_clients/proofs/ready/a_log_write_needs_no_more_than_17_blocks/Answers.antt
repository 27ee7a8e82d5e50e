use Rattle.std.proofs.Common.{refl}
use Rattle.pool_tables.specs.Shows.{pool_shown}
use Rattle.pool_tables_clients.proofs.Passed.{wrote}
use Rattle.pool_tables_clients.proofs.ready.a_log_write_needs_no_more_than_17_blocks.Goals as goal

pub returns : goal.returns
returns g c =
    wrote (pool_shown c.args.pool.now) (pool_shown c.log_write.new.self) c.log_write.result (rw (c.requires.running, c.requires.one, c.requires.enough, c.requires.number) refl) c.log_write.ensures.step
