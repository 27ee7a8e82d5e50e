use Rattle.std.proofs.Common.{refl}
use Rattle.base.specs.declared.error.PoolError.TheVariants as error
use Rattle.pool_core.specs.States.{shown}
use Rattle.pool_tables.proofs.Callers.{refused_by}
use Rattle.pool_tables.proofs.OfNoDevice.{some_past}
use Rattle.pool_core_clients.proofs.steps.a_suspended_pool_releases_no_lock.Goals as goal

pub returns-clause-refused : goal.returns-clause-refused
returns-clause-refused g c =
    (refused_by _ error.Suspended c.unlock.result (shown c.args.pool.now) (shown c.unlock.new.self) _ _ _ _ (rw c.requires refl) (c.unlock.ensures.step (some_past (shown c.args.pool.now))).1).0

pub returns-clause-unchanged : goal.returns-clause-unchanged
returns-clause-unchanged g c =
    (refused_by _ error.Suspended c.unlock.result (shown c.args.pool.now) (shown c.unlock.new.self) _ _ _ _ (rw c.requires refl) (c.unlock.ensures.step (some_past (shown c.args.pool.now))).1).1
