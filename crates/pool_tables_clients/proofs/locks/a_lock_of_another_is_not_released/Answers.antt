use Rattle.std.proofs.Common.{refl}
use Rattle.base.specs.declared.error.PoolError.TheVariants as error
use Rattle.pool_tables.specs.Shows.{pool_shown}
use Rattle.pool_tables.proofs.Callers.{refused_by}
use Rattle.pool_tables.proofs.OfNoDevice.{some_past}
use Rattle.pool_tables_clients.proofs.locks.a_lock_of_another_is_not_released.Goals as goal

pub returns-clause-refused : goal.returns-clause-refused
returns-clause-refused c =
    (refused_by _ error.NoSuchLock c.unlock.result (pool_shown c.args.pool.now) (pool_shown c.unlock.new.self) _ _ _ _ (rw (c.requires.running, c.requires.held) refl) (c.unlock.ensures.step (some_past (pool_shown c.args.pool.now))).1).0

pub returns-clause-unchanged : goal.returns-clause-unchanged
returns-clause-unchanged c =
    (refused_by _ error.NoSuchLock c.unlock.result (pool_shown c.args.pool.now) (pool_shown c.unlock.new.self) _ _ _ _ (rw (c.requires.running, c.requires.held) refl) (c.unlock.ensures.step (some_past (pool_shown c.args.pool.now))).1).1
