use Rattle.std.proofs.Common.{◌∙◌, ℕ, List, ap, sym, subst, arith}
use Rattle.base.specs.formats.Geometry.{AreBlocksOf, block_count}
use Rattle.base.specs.steps.Exact.{log_addresses}
use Rattle.base.specs.steps.Logs.{Log, log_after_write}
use Rattle.base.proofs.formats.BlockTests.{block_passes}
use Rattle.intent_log.specs.Fillings.{taken_of}
use Rattle.intent_log.specs.Kept.{header_fields, log_shown}
use Rattle.intent_log.specs.RunLogs.{IsLogOf}
use Rattle.intent_log.proofs.RunLogs.{written_log}
use Rattle.records.specs.declared.record.Record.{Record}
use Rattle.pool_tables.specs.Shows.{pool_shown}
use Rattle.pool_tables.specs.Unsynced.{KeepsUnsynced}
use Rattle.pool_tables.proofs.LogSteps.{placed_logged}
use Rattle.pool_tables.proofs.pool.PoolTables.note_written.Goals as goal

pub invariant_of-self-clause-free_counted : goal.invariant_of-self-clause-free_counted
invariant_of-self-clause-free_counted c =
    let kept = c.args.self.now.free_counted in
    rw c.take.ensures (record { sized = kept.sized; taken = kept.taken; reserved = kept.reserved })

pub invariant_of-self-clause-unsynced_kept : goal.invariant_of-self-clause-unsynced_kept
invariant_of-self-clause-unsynced_kept c =
    let pool = c.args.self.now in
    subst (λ (rs : List Record). KeepsUnsynced pool.groups.line rs pool.synced pool.changes) (sym c.note.ensures.records) pool.unsynced_kept

pub invariant_of-self-clause-logged : goal.invariant_of-self-clause-logged
invariant_of-self-clause-logged c =
    let pool = c.args.self.now in
    subst (IsLogOf pool.groups.line.synced) (sym c.note.ensures.shown)
    (written_log pool.groups.line.synced (taken_of pool.log c.args.filling) _ (log_shown pool.log) c.requires.taken.taken pool.logged)

pub invariant_of-self-clause-log_placed : goal.invariant_of-self-clause-log_placed
invariant_of-self-clause-log_placed c =
    let pool = c.args.self.now in
    let blocks = block_count pool.geometry in
    let low = c.requires.next.within in
    let sized = pool.free_counted.sized in
    subst (λ (l : Log). AreBlocksOf blocks (log_addresses l)) (sym c.note.ensures.shown)
    (placed_logged blocks _ (taken_of pool.log c.args.filling) (log_shown pool.log) (block_passes blocks _ (c.args.next, omega (arith, low, sized), c.block_address.ensures.address)) pool.log_placed)

pub invariant_of-self-clause-sync_header : goal.invariant_of-self-clause-sync_header
invariant_of-self-clause-sync_header c =
    let pool = c.args.self.now in
    λ r is. c.note.ensures.headers r.group.0 (header_fields r.header) (pool.sync_header r is)

pub returns-clause-shown : goal.returns-clause-shown
returns-clause-shown c =
    let pool = c.args.self.now in
    let shown = c.note.ensures.shown ∙ ap (λ (a : ℕ). log_after_write (taken_of pool.log c.args.filling) a (log_shown pool.log)) c.block_address.ensures.address in
    λ k. record (pool_shown pool) { log = shown k; free = (c.take.ensures k).free }
