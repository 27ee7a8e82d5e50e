use Rattle.std.proofs.Common.{refl}
use Rattle.base.specs.declared.error.PoolError.TheVariants as error
use Rattle.pool_tables.specs.Shows.{pool_shown}
use Rattle.pool_tables.proofs.Callers.{refused_by}
use Rattle.pool_tables.proofs.OfNoDevice.{some_past}
use Rattle.pool_tables_clients.proofs.ready.a_certain_log_block_is_not_flushed_again.Goals as goal

pub returns-clause-refused : goal.returns-clause-refused
returns-clause-refused g c =
    (refused_by _ error.NotReady c.log_flush.result (pool_shown c.args.pool.now) (pool_shown c.log_flush.new.self) _ _ _ _ (rw (c.requires.running, c.requires.certain) refl) (c.log_flush.ensures.step (some_past (pool_shown c.args.pool.now))).1).0

pub returns-clause-unchanged : goal.returns-clause-unchanged
returns-clause-unchanged g c =
    (refused_by _ error.NotReady c.log_flush.result (pool_shown c.args.pool.now) (pool_shown c.log_flush.new.self) _ _ _ _ (rw (c.requires.running, c.requires.certain) refl) (c.log_flush.ensures.step (some_past (pool_shown c.args.pool.now))).1).1
