use Rattle.std.proofs.Common.{refl}
use Rattle.std.proofs.lemmas.Result.{err_from_is_err_and}
use Rattle.pool_tables.proofs.Closes.{accounts_move_on, close_ends, close_moves, close_suspended}
use Rattle.pool_tables.proofs.HeldGroups.{close_keeps}
use Rattle.pool_tables.proofs.UnsyncedChanges.{log_on, moved_on}
use Rattle.pool_tables.specs.Shows.{pool_shown}
use Rattle.intent_log.specs.Kept.{log_shown}
use Rattle.pool_tables.proofs.pool.PoolTables.close_group.Goals as goal

pub returns-in_err-check_running-clause-step : goal.returns-in_err-check_running-clause-step
returns-in_err-check_running-clause-step c =
    let p = err_from_is_err_and c.from_residual.result c.from_residual.ensures.1 in
    let told = c.in_err-check_running.ensures in
    rw (p.1, p.2, told.0) (close_suspended (pool_shown c.args.self.now) told.1)

pub invariant_of-self-clause-accounted : goal.invariant_of-self-clause-accounted
invariant_of-self-clause-accounted c =
    let pool = c.args.self.now in
    let ts = pool.transactions.transactions in
    let told = c.close_open.ensures in
    let kept = close_keeps c.close_open.result ts pool.groups c.close_open.new.self pool.accounted.counted pool.accounted.holds_exact told.refused told.unchanged told.closed in
    accounts_move_on ts pool.groups c.close_open.new.self pool.dirty kept (close_moves c.close_open.result pool.groups c.close_open.new.self told.unchanged told.closed) pool.accounted

pub invariant_of-self-clause-unsynced_kept : goal.invariant_of-self-clause-unsynced_kept
invariant_of-self-clause-unsynced_kept c =
    let pool = c.args.self.now in
    let told = c.close_open.ensures in
    moved_on pool.groups.line c.close_open.new.self.line pool.log.records pool.synced pool.changes (close_moves c.close_open.result pool.groups c.close_open.new.self told.unchanged told.closed) pool.unsynced_kept

pub invariant_of-self-clause-logged : goal.invariant_of-self-clause-logged
invariant_of-self-clause-logged c =
    let pool = c.args.self.now in
    let told = c.close_open.ensures in
    log_on pool.groups.line c.close_open.new.self.line (log_shown pool.log) (close_moves c.close_open.result pool.groups c.close_open.new.self told.unchanged told.closed) pool.logged

pub returns-clause-step : goal.returns-clause-step
returns-clause-step c =
    let told = c.close_open.ensures in
    close_ends c.close_open.result c.args.self.now.groups c.close_open.new.self (pool_shown c.args.self.now) c.in_ok-check_running.ensures refl told.refused told.error told.unchanged told.closed told.group
