use Rattle.std.proofs.Common.{refl}
use Rattle.std.proofs.lemmas.Result.{err_from_is_err_and}
use Rattle.groups.proofs.ExactHolds.{count_transactions}
use Rattle.pool_tables.proofs.Closes.{accounts_move_on, quiesce_ends, quiesce_moves, quiesce_suspended}
use Rattle.pool_tables.proofs.HeldGroups.{quiesce_keeps}
use Rattle.pool_tables.proofs.UnsyncedChanges.{log_on, moved_on}
use Rattle.pool_tables.specs.Shows.{pool_shown}
use Rattle.intent_log.specs.Kept.{log_shown}
use Rattle.pool_tables.proofs.pool.PoolTables.mark_quiesced.Goals as goal

pub returns-in_err-check_running-clause-step : goal.returns-in_err-check_running-clause-step
returns-in_err-check_running-clause-step c =
    let p = err_from_is_err_and c.from_residual.result c.from_residual.ensures.1 in
    let told = c.in_err-check_running.ensures in
    rw (p.1, p.2, told.0) (quiesce_suspended (pool_shown c.args.self.now) told.1)

pub invariant_of-self-clause-accounted : goal.invariant_of-self-clause-accounted
invariant_of-self-clause-accounted c =
    let pool = c.args.self.now in
    let ts = pool.transactions.transactions in
    let told = c.mark_quiesced.ensures in
    let kept = quiesce_keeps c.mark_quiesced.result ts pool.groups c.mark_quiesced.new.self pool.accounted.counted pool.accounted.holds_exact told.refused told.unchanged told.quiesced told.group in
    accounts_move_on ts pool.groups c.mark_quiesced.new.self pool.dirty kept (quiesce_moves c.mark_quiesced.result pool.groups c.mark_quiesced.new.self told.unchanged told.quiesced) pool.accounted

pub invariant_of-self-clause-unsynced_kept : goal.invariant_of-self-clause-unsynced_kept
invariant_of-self-clause-unsynced_kept c =
    let pool = c.args.self.now in
    let told = c.mark_quiesced.ensures in
    moved_on pool.groups.line c.mark_quiesced.new.self.line pool.log.records pool.synced pool.changes (quiesce_moves c.mark_quiesced.result pool.groups c.mark_quiesced.new.self told.unchanged told.quiesced) pool.unsynced_kept

pub invariant_of-self-clause-logged : goal.invariant_of-self-clause-logged
invariant_of-self-clause-logged c =
    let pool = c.args.self.now in
    let told = c.mark_quiesced.ensures in
    log_on pool.groups.line c.mark_quiesced.new.self.line (log_shown pool.log) (quiesce_moves c.mark_quiesced.result pool.groups c.mark_quiesced.new.self told.unchanged told.quiesced) pool.logged

pub returns-clause-step : goal.returns-clause-step
returns-clause-step c =
    let pool = c.args.self.now in
    let told = c.mark_quiesced.ensures in
    let exact = (count_transactions pool.transactions.transactions pool.groups pool.accounted.counted pool.accounted.holds_exact).refused in
    quiesce_ends c.mark_quiesced.result pool.groups c.mark_quiesced.new.self (pool_shown pool) c.in_ok-check_running.ensures refl exact told.refused told.error told.unchanged told.quiesced told.group
