use Rattle.std.proofs.Common.{refl}
use Rattle.base.specs.declared.error.PoolError.TheVariants as error
use Rattle.pool_tables.specs.Shows.{pool_shown}
use Rattle.pool_tables.proofs.Callers.{refused_by}
use Rattle.pool_tables.proofs.OfNoDevice.{some_past}
use Rattle.pool_tables_clients.proofs.logs.no_log_block_takes_a_kept_back_one.Goals as goal

pub returns-clause-refused : goal.returns-clause-refused
returns-clause-refused g c =
    (refused_by _ error.NoLogSpace c.log_write.result (pool_shown c.args.pool.now) (pool_shown c.log_write.new.self) _ _ _ _ (rw (c.requires.running, c.requires.one, c.requires.few) refl) (c.log_write.ensures.step (some_past (pool_shown c.args.pool.now))).1).0

pub returns-clause-unchanged : goal.returns-clause-unchanged
returns-clause-unchanged g c =
    (refused_by _ error.NoLogSpace c.log_write.result (pool_shown c.args.pool.now) (pool_shown c.log_write.new.self) _ _ _ _ (rw (c.requires.running, c.requires.one, c.requires.few) refl) (c.log_write.ensures.step (some_past (pool_shown c.args.pool.now))).1).1
