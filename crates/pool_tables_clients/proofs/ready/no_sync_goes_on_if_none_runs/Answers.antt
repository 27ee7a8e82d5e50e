use Rattle.std.proofs.Common.{refl}
use Rattle.base.specs.declared.error.PoolError.TheVariants as error
use Rattle.pool_tables.specs.Progresses.{plain_progress}
use Rattle.pool_tables.specs.Shows.{pool_shown}
use Rattle.pool_tables_clients.proofs.Callers.{refused_as}
use Rattle.pool_tables.proofs.OfNoDevice.{some_past}
use Rattle.pool_tables_clients.proofs.ready.no_sync_goes_on_if_none_runs.Goals as goal

pub returns-clause-refused : goal.returns-clause-refused
returns-clause-refused g c =
    (refused_as plain_progress _ error.NotReady c.sync_step.result (pool_shown c.args.pool.now) (pool_shown c.sync_step.new.self) _ _ _ _ (rw (c.requires.running, c.requires.none) refl) (c.sync_step.ensures.step (some_past (pool_shown c.args.pool.now))).1).0

pub returns-clause-unchanged : goal.returns-clause-unchanged
returns-clause-unchanged g c =
    (refused_as plain_progress _ error.NotReady c.sync_step.result (pool_shown c.args.pool.now) (pool_shown c.sync_step.new.self) _ _ _ _ (rw (c.requires.running, c.requires.none) refl) (c.sync_step.ensures.step (some_past (pool_shown c.args.pool.now))).1).1
