use Rattle.std.proofs.Common.{List, ap, subst, sym}
use Rattle.base.specs.formats.Geometry.{AreBlocksOf, block_count}
use Rattle.base.specs.steps.Exact.{log_addresses}
use Rattle.base.specs.steps.Logs.{Log}
use Rattle.intent_log.specs.Kept.{RunLog, header_fields, log_shown}
use Rattle.intent_log.specs.RunLogs.{IsLogOf, KeepsHeader}
use Rattle.records.specs.declared.record.Record.{Record}
use Rattle.pool_tables.specs.Unsynced.{KeepsUnsynced}
use Rattle.pool_tables.proofs.pool.PoolTables.reserve_log.Goals as goal

pub invariant_of-self-clause-unsynced_kept : goal.invariant_of-self-clause-unsynced_kept
invariant_of-self-clause-unsynced_kept c =
    let pool = c.args.self.now in
    subst (λ (rs : List Record). KeepsUnsynced pool.groups.line rs pool.synced pool.changes) (sym (ap (λ (l : RunLog). l.records) c.reserve_block.ensures.same)) pool.unsynced_kept

pub invariant_of-self-clause-logged : goal.invariant_of-self-clause-logged
invariant_of-self-clause-logged c =
    let pool = c.args.self.now in
    subst (IsLogOf pool.groups.line.synced) (sym (ap log_shown c.reserve_block.ensures.same)) pool.logged

pub invariant_of-self-clause-log_placed : goal.invariant_of-self-clause-log_placed
invariant_of-self-clause-log_placed c =
    let pool = c.args.self.now in
    subst (λ (log : Log). AreBlocksOf (block_count pool.geometry) (log_addresses log)) (sym (ap log_shown c.reserve_block.ensures.same)) pool.log_placed

pub invariant_of-self-clause-sync_header : goal.invariant_of-self-clause-sync_header
invariant_of-self-clause-sync_header c =
    let pool = c.args.self.now in
    λ r is. subst (λ (log : Log). KeepsHeader r.group.0 (header_fields r.header) log) (sym (ap log_shown c.reserve_block.ensures.same)) (pool.sync_header r is)
