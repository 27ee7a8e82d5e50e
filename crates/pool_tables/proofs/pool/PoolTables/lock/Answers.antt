use Rattle.std.proofs.lemmas.Result.{err_from_is_err_and}
use Rattle.base.specs.steps.Refusals.{object_range}
use Rattle.pool_tables.proofs.LockSteps.{lock_suspended, lock_ends}
use Rattle.pool_tables.specs.Shows.{pool_shown}
use Rattle.pool_tables.proofs.pool.PoolTables.lock.Goals as goal

pub returns-in_err-check_running-clause-step : goal.returns-in_err-check_running-clause-step
returns-in_err-check_running-clause-step c =
    let p = err_from_is_err_and c.from_residual.result c.from_residual.ensures.1 in
    let told = c.in_err-check_running.ensures in
    let t = object_range c.args.object.0 c.args.range.low c.args.range.high in
    rw (p.1, p.2, told.0) (lock_suspended c.args.owner.0 t c.args.mode (pool_shown c.args.self.now) told.1)

pub returns-clause-step : goal.returns-clause-step
returns-clause-step c =
    let t = object_range c.args.object.0 c.args.range.low c.args.range.high in
    lock_ends c.args.owner t c.args.mode c.lock.result (pool_shown c.args.self.now) c.lock.new.self
    c.in_ok-check_running.ensures c.lock.ensures.refused c.lock.ensures.granted c.lock.ensures.unchanged
