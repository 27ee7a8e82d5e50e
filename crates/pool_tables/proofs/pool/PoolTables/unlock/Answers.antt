use Rattle.std.proofs.Common.{◌∙◌, sym}
use Rattle.std.proofs.lemmas.Result.{err_from_is_err_and}
use Rattle.range_locks.specs.Locks.{grant_of}
use Rattle.pool_tables.proofs.LockSteps.{unlock_suspended, unlock_none, unlock_used, unlock_ends}
use Rattle.pool_tables.specs.Shows.{pool_shown}
use Rattle.pool_tables.proofs.pool.PoolTables.unlock.Goals as goal

pub returns-in_err-check_running-clause-step : goal.returns-in_err-check_running-clause-step
returns-in_err-check_running-clause-step c =
    let p = err_from_is_err_and c.from_residual.result c.from_residual.ensures.1 in
    let told = c.in_err-check_running.ensures in
    rw (p.1, p.2, told.0) (unlock_suspended c.args.owner.0 c.args.id.0 (pool_shown c.args.self.now) told.1)

pub returns-in_default-clause-step : goal.returns-in_default-clause-step
returns-in_default-clause-step c =
    unlock_none c.args.owner.0 c.args.id.0 (pool_shown c.args.self.now) c.in_ok-check_running.ensures (sym c.in_default.ensures)

pub returns-then-is_in_use-clause-step : goal.returns-then-is_in_use-clause-step
returns-then-is_in_use-clause-step c =
    let g = grant_of (c.args.id, c.in-Some.held.now) in
    unlock_used c.args.owner.0 c.args.id.0 g (pool_shown c.args.self.now) c.in_ok-check_running.ensures (sym c.in-Some.ensures) (sym (c.is_in_use.ensures c.args.id) ∙ c.if-is_in_use.true)

pub returns-clause-step : goal.returns-clause-step
returns-clause-step c =
    let g = grant_of (c.args.id, c.in-Some.held.now) in
    unlock_ends c.args.owner.0 c.args.id.0 g c.unlock.result (pool_shown c.args.self.now) c.unlock.new.self c.in_ok-check_running.ensures (sym c.in-Some.ensures)
    (sym (c.is_in_use.ensures c.args.id) ∙ c.if-is_in_use.false) c.unlock.ensures.found c.unlock.ensures.let_go
