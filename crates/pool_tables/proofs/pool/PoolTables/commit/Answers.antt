use Rattle.std.proofs.Common.{◌≡◌, ◌∙◌, true, List, Some, Err, ap, sym, subst}
use Rattle.std.specs.List.{list_all}
use Rattle.std.proofs.lemmas.Result.{err_from_is_err_and}
use Rattle.base.specs.declared.error.PoolError.TheVariants as error
use Rattle.base.specs.declared.operation.Op.{Op}
use Rattle.base.specs.formats.Records.{is_content_allowed}
use Rattle.base.specs.formats.Geometry.{AreBlocksOf, block_count}
use Rattle.base.specs.steps.Exact.{log_addresses}
use Rattle.base.specs.steps.Logs.{Log}
use Rattle.base.specs.steps.Refusals.{commit_refusal}
use Rattle.intent_log.specs.Kept.{RunLog, header_fields, log_shown}
use Rattle.intent_log.specs.RunLogs.{IsLogOf, KeepsHeader}
use Rattle.base.specs.steps.Shown.{Shown}
use Rattle.base.specs.steps.Steps.{Commit}
use Rattle.pool_tables.specs.Meets.{MayCommit, MeetsExplained}
use Rattle.records.specs.declared.record.Record.{Record}
use Rattle.pool_tables.specs.Entries.{shown_after_entry}
use Rattle.pool_tables.specs.Unsynced.{KeepsUnsynced}
use Rattle.labels.specs.declared.stage.Stage.TheVariants.{Even}
use Rattle.sync.specs.GroupLabels.{stages_for}
use Rattle.pool_tables.specs.Shows.{pool_shown, shown_contents}
use Rattle.pool_tables.proofs.CommitSteps.{commit_refused, commit_wants}
use Rattle.pool_tables.proofs.Entered.{entered}
use Rattle.pool_tables.proofs.OfNoDevice.{commit_own}
use Rattle.pool_tables.proofs.PendingChanges.{changes_left_at, committed_behind, names_left_at, same_changes, shown_left}
use Rattle.extents.specs.Patches.{Patches}
use Rattle.extents.specs.Synced.{HaveLengthsAfter}
use Rattle.pool_tables.proofs.pool.PoolTables.commit.Goals as goal

pub returns-in_err-group-clause-step : goal.returns-in_err-group-clause-step
returns-in_err-group-clause-step c =
    let tx = c.args.tx.0 in
    let ops = c.args.ops in
    let s = pool_shown c.args.self.now in
    let p = err_from_is_err_and c.from_residual.result c.from_residual.ensures.1 in
    let e = c.in_err-group.field-0.0 in
    rw (p.1, p.2) (commit_refused tx ops e s (subst (λ (l : List Op). commit_refusal tx l s ≡ Some e) c.as_slice.ensures c.in_err-group.ensures.refusal))

pub returns-in_err-group-clause-own : goal.returns-in_err-group-clause-own
returns-in_err-group-clause-own c =
    let s = pool_shown c.args.self.now in
    let p = err_from_is_err_and c.from_residual.result c.from_residual.ensures.1 in
    rw (p.1, p.2) (commit_own c.args.tx.0 _ s c.in_err-group.field-0.0 c.in_err-group.ensures.refusal)

pub returns-in_err-reserve_record-clause-step : goal.returns-in_err-reserve_record-clause-step
returns-in_err-reserve_record-clause-step c =
    let tx = c.args.tx.0 in
    let ops = c.args.ops in
    let s = pool_shown c.args.self.now in
    let may : MayCommit tx ops c.in_ok-group.group.0 s = subst (λ (l : List Op). MayCommit tx l c.in_ok-group.group.0 s) c.as_slice.ensures c.in_ok-group.ensures.refusal in
    let p = err_from_is_err_and c.from_residual-in_err-reserve_record.result c.from_residual-in_err-reserve_record.ensures.1 in
    rw (p.1, p.2, c.in_err-reserve_record.ensures.refused)
    (subst (λ (x : Shown). MeetsExplained (Commit tx ops) (Err error.NoMemory) s x) (λ k. record s { log = log_shown (sym c.in_err-reserve_record.ensures.same k) }) (commit_wants tx ops s may.passes))

pub invariant_of-self : goal.invariant_of-self
invariant_of-self c =
    let pool = c.args.self.now in
    let log = sym (ap log_shown c.reserve_record.ensures.same) in
    record {
      sized = pool.sized;
      free_counted = pool.free_counted;
      import_fits = pool.import_fits;
      next_ordinal_fits = pool.next_ordinal_fits;
      accounted = pool.accounted;
      running = pool.running;
      sync_line = pool.sync_line;
      tree_placed = pool.tree_placed;
      unsynced_kept = subst (λ (rs : List Record). KeepsUnsynced pool.groups.line rs pool.synced pool.changes) (sym (ap (λ (l : RunLog). l.records) c.reserve_record.ensures.same)) pool.unsynced_kept;
      logged = subst (IsLogOf pool.groups.line.synced) log pool.logged;
      log_placed = subst (λ (l : Log). AreBlocksOf (block_count pool.geometry) (log_addresses l)) log pool.log_placed;
      sync_lengths = pool.sync_lengths;
      sync_header = λ r is. subst (λ (l : Log). KeepsHeader r.group.0 (header_fields r.header) l) log (pool.sync_header r is);
    }

pub place_of-place-requires : goal.place_of-place-requires
place_of-place-requires c =
    let s = pool_shown c.args.self.now in
    let ops = c.args.ops in
    let may : MayCommit c.args.tx.0 ops c.in_ok-group.group.0 s = subst (λ (l : List Op). MayCommit c.args.tx.0 l c.in_ok-group.group.0 s) c.as_slice.ensures c.in_ok-group.ensures.refusal in
    committed_behind c.args.self.now c.args.tx.0 ops c.in_ok-group.group.0 may

pub invariant_of-self-2 : goal.invariant_of-self-2
invariant_of-self-2 c =
    let pool = c.args.self.now in
    let records = ap (λ (l : RunLog). l.records) c.in_ok-reserve_record.ensures.same in
    let log = sym (ap log_shown c.in_ok-reserve_record.ensures.same) in
    record {
      sized = pool.sized;
      free_counted = pool.free_counted;
      import_fits = pool.import_fits;
      next_ordinal_fits = pool.next_ordinal_fits;
      accounted = pool.accounted;
      running = λ r is. let was = pool.running r is in record {
        geometry = was.geometry;
        stages = was.stages ∙ ap (stages_for pool.guid r.group.0 pool.geometry Even) (sym (c.reserve.ensures.same.names 0));
        left = was.left;
        uberblock = was.uberblock;
        placed = was.placed;
      };
      sync_line = pool.sync_line;
      tree_placed = pool.tree_placed;
      log_placed = subst (λ (l : Log). AreBlocksOf (block_count pool.geometry) (log_addresses l)) log pool.log_placed;
      sync_lengths = λ r is. subst (λ (p : Patches). HaveLengthsAfter p r.entries pool.synced.tree) (sym (same_changes pool.changes c.reserve.new.self c.reserve.ensures.same 0)) (pool.sync_lengths r is);
      sync_header = λ r is. subst (λ (l : Log). KeepsHeader r.group.0 (header_fields r.header) l) log (pool.sync_header r is);
      unsynced_kept = record {
        open_or_before = rw records pool.unsynced_kept.open_or_before;
        within = pool.unsynced_kept.within;
        changed = rw records (changes_left_at pool.groups.line.synced pool.log.records pool.changes c.reserve.new.self pool.unsynced_kept.changed c.reserve.ensures.same);
        named = rw records (names_left_at pool.groups.line.synced pool.log.records pool.changes c.reserve.new.self pool.unsynced_kept.named c.reserve.ensures.same);
      };
      logged = subst (IsLogOf pool.groups.line.synced) log pool.logged;
    }

pub returns-in_err-reserve-clause-step : goal.returns-in_err-reserve-clause-step
returns-in_err-reserve-clause-step c =
    let tx = c.args.tx.0 in
    let ops = c.args.ops in
    let pool = c.args.self.now in
    let s = pool_shown pool in
    let may : MayCommit tx ops c.in_ok-group.group.0 s = subst (λ (l : List Op). MayCommit tx l c.in_ok-group.group.0 s) c.as_slice.ensures c.in_ok-group.ensures.refusal in
    let p = err_from_is_err_and c.from_residual-in_err-reserve.result c.from_residual-in_err-reserve.ensures.1 in
    rw (p.1, p.2)
    (subst (λ (x : Shown). MeetsExplained (Commit tx ops) (Err error.NoMemory) s x) (sym (shown_left pool c.reserve.new.self c.reserve_record.new.self c.reserve.ensures.same (ap log_shown c.in_ok-reserve_record.ensures.same))) (commit_wants tx ops s may.passes))

pub enter-ordinal-requires-clause-may : goal.enter-ordinal-requires-clause-may
enter-ordinal-requires-clause-may c =
    let tx = c.args.tx.0 in
    let ops = c.args.ops in
    let pool = c.args.self.now in
    let s = pool_shown pool in
    let may : MayCommit tx ops c.in_ok-group.group.0 s = subst (λ (l : List Op). MayCommit tx l c.in_ok-group.group.0 s) c.as_slice.ensures c.in_ok-group.ensures.refusal in
    subst (λ (x : Shown). MayCommit tx ops c.in_ok-group.group.0 x) (sym (shown_left pool c.reserve.new.self c.reserve_record.new.self c.in_ok-reserve.ensures.same (ap log_shown c.in_ok-reserve_record.ensures.same))) may

pub returns-clause-step : goal.returns-clause-step
returns-clause-step c =
    let tx = c.args.tx.0 in
    let ops = c.args.ops in
    let group = c.in_ok-group.group.0 in
    let pool = c.args.self.now in
    let s = pool_shown pool in
    let new = c.enter-ordinal.new.self in
    let may : MayCommit tx ops group s = subst (λ (l : List Op). MayCommit tx l group s) c.as_slice.ensures c.in_ok-group.ensures.refusal in
    let bytes = subst (λ (l : List Op). list_all is_content_allowed l ≡ true) c.as_slice-2.ensures c.in_ok-reserve.ensures.bytes in
    let shown : pool_shown new ≡ shown_after_entry tx group ops (shown_contents new) s = c.enter-ordinal.ensures.shown
    ∙ ap (λ (x : Shown). shown_after_entry tx group ops (shown_contents new) x) (shown_left pool c.reserve.new.self c.reserve_record.new.self c.in_ok-reserve.ensures.same (ap log_shown c.in_ok-reserve_record.ensures.same)) in
    rw c.enter-ordinal.ensures.ordinal (entered tx ops group s may bytes new shown)
