use Rattle.std.proofs.lemmas.Result.{err_from_is_err_and}
use Rattle.pool_tables.specs.Shows.{pool_shown}
use Rattle.pool_tables.proofs.BeginTests.{begin_bad, begin_last, begin_suspended, begin_taken}
use Rattle.pool_tables.proofs.pool.PoolTables.check_begin.Goals as goal

pub returns-in_err-check_running-clause-refusal : goal.returns-in_err-check_running-clause-refusal
returns-in_err-check_running-clause-refusal c =
    let p = err_from_is_err_and c.from_residual.result c.from_residual.ensures.1 in
    let told = c.in_err-check_running.ensures in
    rw (p.1, p.2, told.0) (begin_suspended c.args.owner.0 c.args.plan.now (pool_shown c.args.self.now) told.1)

pub returns-in_err-check_plan-clause-refusal : goal.returns-in_err-check_plan-clause-refusal
returns-in_err-check_plan-clause-refusal c =
    let p = err_from_is_err_and c.from_residual-in_err-check_plan.result c.from_residual-in_err-check_plan.ensures.1 in
    rw (p.1, p.2) (begin_bad c.args.owner.0 c.args.plan.now (pool_shown c.args.self.now) c.in_ok-check_running.ensures _ c.in_err-check_plan.ensures.refusal)

pub returns-in_err-check_ranges-clause-refusal : goal.returns-in_err-check_ranges-clause-refusal
returns-in_err-check_ranges-clause-refusal c =
    let p = err_from_is_err_and c.from_residual-in_err-check_ranges.result c.from_residual-in_err-check_ranges.ensures.1 in
    rw (p.1, p.2)
    (begin_taken c.args.owner.0 c.args.plan.now (pool_shown c.args.self.now) c.in_ok-check_running.ensures c.in_ok-check_plan.ensures.refusal _ c.in_err-check_ranges.ensures)

pub returns-clause-refusal : goal.returns-clause-refusal
returns-clause-refusal c =
    begin_last c.args.owner.0 c.args.plan.now (pool_shown c.args.self.now) c.in_ok-check_running.ensures c.in_ok-check_plan.ensures.refusal c.in_ok-check_ranges.ensures
    c.check_room.result c.check_room.ensures.refusal
