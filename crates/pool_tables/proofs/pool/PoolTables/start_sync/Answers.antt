use Rattle.std.proofs.Common.{◌≡◌, ◌∙◌, ℕ, ap, sym, subst, refl, length, List, Some, arith}
use Rattle.std.proofs.lemmas.Bool.{false≢true}
use Rattle.std.proofs.lemmas.Result.{err_from_is_err_and}
use Rattle.base.specs.declared.names.Group.{Group}
use Rattle.base.specs.formats.Chain.{Header}
use Rattle.base.specs.steps.Shown.{SyncPlan}
use Rattle.extents.specs.Synced.{HaveLengthsAfter}
use Rattle.unsynced_extents.specs.Unsynced.{changes_at}
use Rattle.groups.specs.CountedLines.{CountedLine, after_start}
use Rattle.intent_log.specs.Kept.{header_fields, log_shown}
use Rattle.space.specs.FreeSets.{FreeSpace}
use Rattle.tree_plans.specs.declared.planner.PlannedBlock.{PlannedBlock}
use Rattle.pool_tables.specs.Accounts.{AreAccounted}
use Rattle.pool_tables.specs.declared.pool.RunningSync.{RunningSync}
use Rattle.intent_log.specs.RunLogs.{IsLogOf, KeepsHeader}
use Rattle.sync.specs.GroupLabels.{WritesUberblock}
use Rattle.pool_tables.specs.RunningUberblocks.{uberblock_with}
use Rattle.pool_tables.specs.Unsynced.{KeepsUnsynced}
use Rattle.pool_tables.proofs.Closes.{accounts_move_on}
use Rattle.pool_tables.proofs.UnsyncedChanges.{moved_on}
use Rattle.pool_tables.proofs.syncs.StartLeads.{none_counted, planned_lengths, taken_anew}
use Rattle.pool_tables.proofs.syncs.StartedSyncs.{plan_refuses_start, plan_starts_sync, suspended_refuses_start, unready_refuses_start}
use Rattle.pool_tables.proofs.HeldGroups.{counted_start, exact_moves, may_start, started}
use Rattle.pool_tables.proofs.syncs.SameSyncs.{RunsIn, kept_sync}
use Rattle.pool_tables.proofs.pool.PoolTables.start_sync.Goals as goal

pub returns-in_err-check_running-clause-start : goal.returns-in_err-check_running-clause-start
returns-in_err-check_running-clause-start g c =
    let p = err_from_is_err_and c.from_residual.result c.from_residual.ensures.1 in
    let told = c.in_err-check_running.ensures in
    rw (p.1, p.2, told.0) (suspended_refuses_start _ _ c.args.moment c.args.self.now told.1)

pub returns-in_err-group-clause-start : goal.returns-in_err-group-clause-start
returns-in_err-group-clause-start g c =
    let p = err_from_is_err_and c.from_residual-in_err-group.result c.from_residual-in_err-group.ensures.1 in
    let told = c.in_err-group.ensures.may in
    rw (p.1, p.2, told.0) (unready_refuses_start _ _ c.args.moment c.args.self.now c.in_ok-check_running.ensures told.1)

pub returns-in_err-planned-clause-start : goal.returns-in_err-planned-clause-start
returns-in_err-planned-clause-start g c =
    let p = err_from_is_err_and c.from_residual-in_err-planned.result c.from_residual-in_err-planned.ensures.1 in
    let told = c.in_err-planned.ensures in
    rw (p.1, p.2) (plan_refuses_start _ _ c.args.moment c.args.self.now c.in_ok-group.group.0 c.in_err-planned.field-0.0 c.in_ok-check_running.ensures c.in_ok-group.ensures.may told.no_space told.refused told.sound)

pub take_all-requires : goal.take_all-requires
take_all-requires g c = none_counted c.args.self.now c.in_ok-group.ensures.may.1

pub unreachable-requires : goal.unreachable-requires
unreachable-requires g c =
    let may = may_start c.args.self.now.groups.line c.in_ok-group.group.0 c.in_ok-group.ensures.may in
    false≢true (sym may ∙ c.in_default.ensures.refused.0 refl)

pub invariant_of-self : goal.invariant_of-self
invariant_of-self g c =
    let pool = c.args.self.now in
    let ts = pool.transactions.transactions in
    let group = c.in_ok-group.group.0 in
    let may = c.in_ok-group.ensures.may in
    let told = c.start_sync.ensures in
    let now : c.start_sync.new.self ≡ after_start group pool.groups = started c.start_sync.result pool.groups c.start_sync.new.self group may told.refused told.started told.group in
    let rs = c.running_sync-running.result in
    let ens = c.running_sync-running.ensures in
    record {
      sized = pool.sized;
      free_counted = record {
        sized = ap (λ (s : FreeSpace). s.blocks) c.take_all.ensures ∙ pool.free_counted.sized;
        taken = ap (λ (s : FreeSpace). s.taken) c.take_all.ensures ∙ taken_anew pool c.deref.result.now may.1 ∙ ap (λ (l : List PlannedBlock). length l) c.deref.ensures.value;
        reserved = ap (λ (s : FreeSpace). s.reserved) c.take_all.ensures ∙ pool.free_counted.reserved;
      };
      import_fits = pool.import_fits;
      next_ordinal_fits = pool.next_ordinal_fits;
      accounted = subst (λ (l : CountedLine). AreAccounted ts l pool.dirty) (sym now) (accounts_move_on ts pool.groups (after_start group pool.groups) pool.dirty
          (counted_start pool.groups pool.accounted.counted group may.0 may.1, (exact_moves ts pool.groups pool.accounted.counted pool.accounted.holds_exact).start group may.0) (refl, omega arith) pool.accounted);
      running = λ x e. subst (RunsIn pool) (kept_sync rs x e) (record {
        geometry = ens.geometry;
        stages = rw (ens.group) ens.stages;
        left = ens.begins.left;
        uberblock = subst (λ (h : Header). WritesUberblock (uberblock_with pool.guid pool.import_number h rs.group.0 rs.moment rs.root) rs.run) (sym (ap (λ (p : SyncPlan). p.header) ens.plan))
            (rw (ens.group, ens.moment, ens.begins.root) ens.uberblock);
        placed = rw (ens.begins.root, ens.begins.directories, ens.begins.entries) c.in_ok-planned.ensures.tree.1.placed;
      });
      sync_line = ap (λ (g : _). Some g.0) ens.group ∙ sym (ap (λ (l : CountedLine). l.line.syncing) now);
      tree_placed = pool.tree_placed;
      log_placed = pool.log_placed;
      sync_lengths = λ x e. subst (λ (r : RunningSync). HaveLengthsAfter (changes_at pool.changes 0) r.entries pool.synced.tree) (kept_sync rs x e)
          (rw ens.begins.entries (planned_lengths pool group may c.in_ok-planned.planned c.in_ok-planned.ensures.tree));
      sync_header = λ x e. subst (λ (r : RunningSync). KeepsHeader r.group.0 (header_fields r.header) (log_shown pool.log)) (kept_sync rs x e)
          (subst (λ (g : ℕ). KeepsHeader g (header_fields rs.header) (log_shown pool.log)) (ap (λ (g : Group). g.0) (sym ens.group)) ens.header);
      unsynced_kept = subst (λ (l : CountedLine). KeepsUnsynced l.line pool.log.records pool.synced pool.changes) (sym now)
          (moved_on pool.groups.line (after_start group pool.groups).line pool.log.records pool.synced pool.changes (refl, omega arith) pool.unsynced_kept);
      logged = subst (λ (l : CountedLine). IsLogOf l.line.synced (log_shown pool.log)) (sym now) pool.logged;
    }

pub returns-clause-start : goal.returns-clause-start
returns-clause-start g c =
    let pool = c.args.self.now in
    let group = c.in_ok-group.group in
    let may = c.in_ok-group.ensures.may in
    let planned = c.in_ok-planned.ensures in
    let ens = c.running_sync-running.ensures in
    let told = c.start_sync.ensures in
    let line = started c.start_sync.result pool.groups c.start_sync.new.self group.0 may told.refused told.started told.group in
    plan_starts_sync _ _ c.args.moment pool group c.in_ok-planned.planned c.in_ok-check_running.ensures may planned.taken planned.tree planned.objects
    c.start_sync.new.self c.take_all.new.free c.running_sync-running.result c.deref.result.now line c.take_all.ensures c.deref.ensures.value ens.begins ens.plan ens.uberblock.bytes ens.named
