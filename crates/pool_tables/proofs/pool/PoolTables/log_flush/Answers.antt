use Rattle.std.proofs.Common.{◌∙◌, List, true, refl, sym, subst}
use Rattle.std.proofs.lemmas.Result.{err_from_is_err_and}
use Rattle.base.specs.formats.Geometry.{AreBlocksOf, block_count}
use Rattle.base.specs.steps.Exact.{log_addresses}
use Rattle.base.specs.steps.Logs.{Log}
use Rattle.intent_log.specs.Kept.{header_fields, log_shown}
use Rattle.intent_log.specs.RunLogs.{IsLogOf, KeepsHeader}
use Rattle.intent_log.proofs.RunLogs.{flushed_log, header_flushed}
use Rattle.records.specs.declared.record.Record.{Record}
use Rattle.pool_tables.specs.Shows.{pool_shown}
use Rattle.pool_tables.specs.Unsynced.{KeepsUnsynced}
use Rattle.pool_tables.proofs.LogSteps.{flush_done, flush_failed, flush_not_ready, flush_suspended, may_flush, placed_flushed}
use Rattle.pool_tables.proofs.pool.PoolTables.log_flush.Goals as goal

pub returns-in_err-check_running-clause-step : goal.returns-in_err-check_running-clause-step
returns-in_err-check_running-clause-step g c =
    let p = err_from_is_err_and c.from_residual.result c.from_residual.ensures.1 in
    let told = c.in_err-check_running.ensures in
    rw (p.1, p.2, told.0) (flush_suspended (pool_shown c.args.self.now) told.1)

pub returns-then-not-awaits_flush-clause-step : goal.returns-then-not-awaits_flush-clause-step
returns-then-not-awaits_flush-clause-step g c =
    flush_not_ready (pool_shown c.args.self.now) c.in_ok-check_running.ensures (sym c.awaits_flush.ensures ∙ c.if-not-awaits_flush.true)

pub invariant_of-self-clause-unsynced_kept : goal.invariant_of-self-clause-unsynced_kept
invariant_of-self-clause-unsynced_kept g c =
    let pool = c.args.self.now in
    subst (λ (rs : List Record). KeepsUnsynced pool.groups.line rs pool.synced pool.changes) (sym c.flushed.ensures.records) pool.unsynced_kept

pub invariant_of-self-clause-logged : goal.invariant_of-self-clause-logged
invariant_of-self-clause-logged g c =
    let pool = c.args.self.now in
    subst (IsLogOf pool.groups.line.synced) (sym c.flushed.ensures.shown) (flushed_log pool.groups.line.synced (log_shown pool.log) pool.logged)

pub invariant_of-self-clause-log_placed : goal.invariant_of-self-clause-log_placed
invariant_of-self-clause-log_placed g c =
    let pool = c.args.self.now in
    subst (λ (log : Log). AreBlocksOf (block_count pool.geometry) (log_addresses log)) (sym c.flushed.ensures.shown) (placed_flushed (block_count pool.geometry) (log_shown pool.log) pool.log_placed)

pub invariant_of-self-clause-sync_header : goal.invariant_of-self-clause-sync_header
invariant_of-self-clause-sync_header g c =
    let pool = c.args.self.now in
    λ r is. subst (λ (log : Log). KeepsHeader r.group.0 (header_fields r.header) log) (sym c.flushed.ensures.shown) (header_flushed r.group.0 (header_fields r.header) (log_shown pool.log) (pool.sync_header r is))

pub returns-in-Ok-clause-step : goal.returns-in-Ok-clause-step
returns-in-Ok-clause-step g c =
    let s = pool_shown c.args.self.now in
    let may = may_flush s c.in_ok-check_running.ensures (sym c.awaits_flush.ensures ∙ c.if-not-awaits_flush.false) in
    flush_done s _ may (λ k. record s { log = c.flushed.ensures.shown k })

pub returns-in-Err-clause-step : goal.returns-in-Err-clause-step
returns-in-Err-clause-step g c =
    let s = pool_shown c.args.self.now in
    let may = may_flush s c.in_ok-check_running.ensures (sym c.awaits_flush.ensures ∙ c.if-not-awaits_flush.false) in
    rw c.in-Err.ensures.refusal (flush_failed s (record s { suspended = true }) may refl)
