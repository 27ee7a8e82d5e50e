use Rattle.std.proofs.lemmas.Result.{err_from_is_err_and}
use Rattle.pool_tables.proofs.LockSteps.{append_ends, append_suspended}
use Rattle.pool_tables.specs.Shows.{pool_shown}
use Rattle.pool_tables.proofs.pool.PoolTables.lock_append.Goals as goal

pub returns-in_err-check_running-clause-step : goal.returns-in_err-check_running-clause-step
returns-in_err-check_running-clause-step c =
    let p = err_from_is_err_and c.from_residual.result c.from_residual.ensures.1 in
    let told = c.in_err-check_running.ensures in
    rw (p.1, p.2, told.0) (append_suspended c.args.owner.0 c.args.object.0 (pool_shown c.args.self.now) told.1)

pub returns-clause-step : goal.returns-clause-step
returns-clause-step c =
    let told = c.lock_append.ensures in
    append_ends c.args.owner c.args.object c.shown_length-length.result c.lock_append.result (pool_shown c.args.self.now) c.lock_append.new.self
    c.in_ok-check_running.ensures c.shown_length-length.ensures told.refused told.granted told.unchanged
