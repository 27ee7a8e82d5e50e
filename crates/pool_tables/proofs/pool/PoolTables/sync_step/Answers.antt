use Rattle.std.proofs.Common.{ℕ, ◌≡◌, ◌∙◌, ◌≤◌, List, arith, ap, inl, inr, nat_lt, sym, subst, refl, true, Some, None}
use Rattle.std.specs.Prelude.{Bool, Option, Result, option_map}
use Rattle.std.proofs.lemmas.Result.{err_from_is_err_and}
use Rattle.base.specs.formats.Geometry.{AreBlocksOf, block_count}
use Rattle.base.specs.kept.PlacedTrees.{ArePlaced}
use Rattle.base.specs.steps.Shown.{SyncPlan, listed}
use Rattle.base.proofs.steps.ListedLengths.{same_listed}
use Rattle.contents.specs.declared.synced_tree.SyncedTree.{SyncedTree}
use Rattle.extents.specs.Synced.{HaveLengthsAfter}
use Rattle.tree_blocks.specs.SyncedTrees.{lengths_after}
use Rattle.tree_blocks.specs.TreeObjects.{lengths_of}
use Rattle.unsynced_extents.specs.Unsynced.{changes_at}
use Rattle.tree_blocks.specs.Pointers.{pointers_of}
use Rattle.pool_tables.specs.declared.pool.RunningSync.{RunningSync}
use Rattle.base.specs.steps.Exact.{log_addresses}
use Rattle.pool_tables.specs.Areas.{addresses_before}
use Rattle.pool_tables.specs.Shows.{contents_after_oldest, plan_of, pool_shown, shown_given}
use Rattle.intent_log.specs.Kept.{RunLog, header_fields, log_shown}
use Rattle.intent_log.specs.RunLogs.{IsLogOf, KeepsHeader}
use Rattle.intent_log.proofs.RunLogs.{synced_log}
use Rattle.intent_log.proofs.SyncedRecords.{synced_shown}
use Rattle.space.specs.FreeSets.{FreeSpace}
use Rattle.pool_tables.proofs.FreeBlocks.{union_both}
use Rattle.pool_tables.proofs.UnsyncedChanges.{open_three, same_contents, synced_changes, synced_names, synced_within, syncing_follows}
use Rattle.base.specs.steps.Logs.{log_after_sync}
use Rattle.records.specs.declared.record.Record as code
use Rattle.std.proofs.lemmas.List.Elements.{All-filter}
use Rattle.pool_tables.proofs.syncs.SameSyncs.{RunsIn, as_many, counted_still, kept_sync, left_as_before, more_left, one_left, one_less, placed_after, refused_as, runs_on}
use Rattle.base.specs.disk.Disk.{bytes_of}
use Rattle.base.specs.declared.step.Reply.TheVariants as reply
use Rattle.groups.specs.CountedLines.{CountedLine, after_sync, line_after_sync}
use Rattle.std.specs.FinMap as finite
use Rattle.std.specs.FinSet as set
use Rattle.throttle.proofs.BlockSums.{blocks_of-remove}
use Rattle.throttle.specs.Blocks.{AreOpenOnesCharged, AreSumsOn}
use Rattle.pool_tables.proofs.Charges.{synced_charged, synced_open_charged, syncing_next}
use Rattle.pool_tables.proofs.HeldGroups.{counted_sync, exact_moves, of_group}
use Rattle.base.specs.declared.error.PoolError.{PoolError}
use Rattle.pool_tables.specs.declared.pool.Progress.{Progress}
use Rattle.pool_tables.specs.Told.{SamePlaces, pool_told, made_by, sync_step_reply, tree_after}
use Rattle.pool_tables.proofs.StillSteps.{leads_as, still_pool}
use Rattle.pool_tables.proofs.syncs.SyncLeads.{advanced, failed_call, failed_running, planned_still, synced_told, was_planned, was_running, was_syncing}
use Rattle.pool_tables.proofs.syncs.SyncSteps.{shown_synced, step_failed, step_more, step_not_ready, step_suspended, step_synced}
use Rattle.pool_tables.specs.Forgotten.{HasNoneOf}
use Rattle.pool_tables.proofs.pool.PoolTables.sync_step.Goals as goal

pub returns-in_err-check_running-clause-step : goal.returns-in_err-check_running-clause-step
returns-in_err-check_running-clause-step g c =
    let p = err_from_is_err_and c.from_residual.result c.from_residual.ensures.1 in
    let told = c.in_err-check_running.ensures in
    rw (p.1, p.2, told.0) (step_suspended (pool_shown c.args.self.now) told.1)

pub returns-in_default-clause-step : goal.returns-in_default-clause-step
returns-in_default-clause-step g c =
    let pool = c.args.self.now in
    let s = pool_shown pool in
    let none : pool.sync ≡ None = c.in_default.is in
    let idle = sym pool.sync_line ∙ ap (λ (o : Option RunningSync). option_map (λ (r : RunningSync). r.group.0) o) none in
    step_not_ready s s c.in_ok-check_running.ensures idle refl

pub next-requires-clause-sized : goal.next-requires-clause-sized
next-requires-clause-sized g c =
    let was = c.args.self.now.running c.in-Some.running c.in-Some.is in
    c.requires ∙ sym was.geometry

pub lay_oldest-requires-clause-lengths : goal.lay_oldest-requires-clause-lengths
lay_oldest-requires-clause-lengths g c =
    let pool = c.args.self.now in
    let same = kept_sync c.in-Some-take.synced _ c.in-Some-take.ensures.value in
    subst (λ (r : RunningSync). HaveLengthsAfter (changes_at pool.changes 0) r.entries pool.synced.tree) (sym same) (pool.sync_lengths c.in-Some.running c.in-Some.is)

pub invariant_of-self-in-Ok-Last-clause-tree_placed : goal.invariant_of-self-in-Ok-Last-clause-tree_placed
invariant_of-self-in-Ok-Last-clause-tree_placed g c =
    let pool = c.args.self.now in
    let same = kept_sync c.in-Some-take.synced _ c.in-Some-take.ensures.value in
    placed_after (block_count pool.geometry) _ _ c.lay_oldest.ensures.pointers
    (subst (λ (r : RunningSync). ∥ ArePlaced (block_count pool.geometry) (tree_after r pool.synced.tree) ∥₁) (sym same) ((pool.running c.in-Some.running c.in-Some.is).placed))

pub end_charges-requires-clause-next : goal.end_charges-requires-clause-next
end_charges-requires-clause-next g c =
    let pool = c.args.self.now in
    let same = kept_sync c.in-Some-take.synced _ c.in-Some-take.ensures.value in
    syncing_next pool c.in-Some-take.synced.group.0 (was_syncing pool c.in-Some.running c.in-Some.is ∙ ap (λ (r : RunningSync). Some r.group.0) (sym same))

pub invariant_of-self-in-Ok-Last-clause-accounted : goal.invariant_of-self-in-Ok-Last-clause-accounted
invariant_of-self-in-Ok-Last-clause-accounted g c =
    let pool = c.args.self.now in
    let group = c.in-Some-take.synced.group.0 in
    let same = kept_sync c.in-Some-take.synced _ c.in-Some-take.ensures.value in
    let was = was_syncing pool c.in-Some.running c.in-Some.is ∙ ap (λ (r : RunningSync). Some r.group.0) (sym same) in
    let finished : c.finish_sync.new.self ≡ after_sync group pool.groups =
    of_group (λ n. after_sync n pool.groups) pool.groups.line.syncing group _ was c.in-Ok.ensures.group c.in-Ok.ensures.synced in
    record {
      counted = rw finished (counted_sync pool.groups pool.accounted.counted group was);
      holds_exact = rw finished ((exact_moves pool.transactions.transactions pool.groups pool.accounted.counted pool.accounted.holds_exact).sync group);
      charged = subst (λ (l : CountedLine). AreSumsOn l.line c.end_charges.new.dirty) (sym finished)
          (subst (AreSumsOn (line_after_sync group pool.groups.line)) (sym c.end_charges.ensures.dirty) (synced_charged pool group));
      open_charged = subst (AreOpenOnesCharged pool.transactions.transactions) (sym c.end_charges.ensures.dirty) (synced_open_charged pool group was);
      plans_allowed = pool.accounted.plans_allowed;
      plans_small = pool.accounted.plans_small;
    }

pub invariant_of-self-in-Ok-Last-clause-unsynced_kept : goal.invariant_of-self-in-Ok-Last-clause-unsynced_kept
invariant_of-self-in-Ok-Last-clause-unsynced_kept g c =
    let pool = c.args.self.now in
    let group = c.in-Some-take.synced.group.0 in
    let same = kept_sync c.in-Some-take.synced _ c.in-Some-take.ensures.value in
    let syncing = was_syncing pool c.in-Some.running c.in-Some.is ∙ ap (λ (r : RunningSync). Some r.group.0) (sym same) in
    let finished : c.finish_sync.new.self ≡ after_sync group pool.groups =
    of_group (λ n. after_sync n pool.groups) pool.groups.line.syncing group _ syncing c.in-Ok.ensures.group c.in-Ok.ensures.synced in
    let next = syncing_follows pool.groups.line group pool.accounted.counted.line syncing in
    let later : code.Record → Bool = λ x. nat_lt group x.group.0 in
    let records = c.give_log.ensures.records ∙ ap (λ (l : RunLog). l.records) c.drop_synced.ensures in
    rw (finished, records) (record {
      open_or_before = All-filter later (λ (x : code.Record). x.group.0 ≤ pool.groups.line.open_group) pool.log.records pool.unsynced_kept.open_or_before;
      within = synced_within pool.changes pool.synced c.lay_oldest.new.synced c.lay_oldest.ensures.contents pool.unsynced_kept.within;
      changed = synced_changes pool.groups.line.synced group pool.log.records pool.changes c.lay_oldest.new.changes next
          pool.unsynced_kept.changed (open_three pool.groups.line pool.log.records pool.accounted.counted.line pool.unsynced_kept.open_or_before) c.lay_oldest.ensures.changes;
      named = synced_names pool.groups.line.synced group pool.log.records pool.changes c.lay_oldest.new.changes next
          pool.unsynced_kept.named (open_three pool.groups.line pool.log.records pool.accounted.counted.line pool.unsynced_kept.open_or_before) c.lay_oldest.ensures.changes;
    })

pub invariant_of-self-in-Ok-Last-clause-logged : goal.invariant_of-self-in-Ok-Last-clause-logged
invariant_of-self-in-Ok-Last-clause-logged g c =
    let pool = c.args.self.now in
    let group = c.in-Some-take.synced.group.0 in
    let same = kept_sync c.in-Some-take.synced _ c.in-Some-take.ensures.value in
    let syncing = was_syncing pool c.in-Some.running c.in-Some.is ∙ ap (λ (r : RunningSync). Some r.group.0) (sym same) in
    let finished : c.finish_sync.new.self ≡ after_sync group pool.groups =
    of_group (λ n. after_sync n pool.groups) pool.groups.line.syncing group _ syncing c.in-Ok.ensures.group c.in-Ok.ensures.synced in
    let header = subst (λ (r : RunningSync). KeepsHeader r.group.0 (header_fields r.header) (log_shown pool.log)) (sym same) (pool.sync_header c.in-Some.running c.in-Some.is) in
    let next = syncing_follows pool.groups.line group pool.accounted.counted.line syncing in
    let log = synced_shown group (header_fields c.in-Some-take.synced.header) pool.log c.drop_synced.new.self c.give_log.new.log c.drop_synced.ensures c.give_log.ensures.kept in
    subst (λ (l : CountedLine). IsLogOf l.line.synced (log_shown c.give_log.new.log)) (sym finished)
    (subst (IsLogOf group) (sym log) (synced_log pool.groups.line.synced group (header_fields c.in-Some-take.synced.header) (log_shown pool.log) (omega (arith, next)) header pool.logged))

pub give_log-requires-clause-count : goal.give_log-requires-clause-count
give_log-requires-clause-count g c = ap (λ (s : FreeSpace). s.blocks) c.end_charges.ensures.free ∙ c.args.self.now.free_counted.sized

pub give_log-requires-clause-placed : goal.give_log-requires-clause-placed
give_log-requires-clause-placed g c =
    subst (λ (l : RunLog). AreBlocksOf (block_count c.args.self.now.geometry) (log_addresses (log_shown l))) (sym c.drop_synced.ensures) c.args.self.now.log_placed

pub invariant_of-self-in-Ok-Last-clause-free_counted : goal.invariant_of-self-in-Ok-Last-clause-free_counted
invariant_of-self-in-Ok-Last-clause-free_counted g c = rw c.take.ensures.after (record {
  sized = ap (λ (s : FreeSpace). s.blocks) c.give_log.ensures.free ∙ ap (λ (s : FreeSpace). s.blocks) c.end_charges.ensures.free ∙ c.args.self.now.free_counted.sized;
  taken = ap (λ (s : FreeSpace). s.taken) c.give_log.ensures.free ∙ ap (λ (s : FreeSpace). s.taken) c.end_charges.ensures.free;
  reserved = ap (λ (s : FreeSpace). s.reserved) c.give_log.ensures.free ∙ c.end_charges.ensures.reserved;
})

pub invariant_of-self-in-Ok-More-clause-free_counted : goal.invariant_of-self-in-Ok-More-clause-free_counted
invariant_of-self-in-Ok-More-clause-free_counted g c = counted_still c.args.self.now c.in-Some.running c.next.new.self c.in-Ok-More.ensures.counts.same c.in-Some.is

pub invariant_of-self-in-Ok-More-clause-running : goal.invariant_of-self-in-Ok-More-clause-running
invariant_of-self-in-Ok-More-clause-running g c =
    let pool = c.args.self.now in
    let r = c.in-Some.running in
    let was = pool.running r c.in-Some.is in
    let counts = c.in-Ok-More.ensures.counts in
    let left = (more_left r.run c.next.new.self counts.same counts.done was.left (λ e. let other = sym c.in-Ok-More.field-0-is ∙ counts.last.1 e in cc)).1 in
    λ x e. subst (RunsIn pool) (kept_sync _ x e) (runs_on pool r c.next.new.self counts.same left was)

pub invariant_of-self-in-Ok-More-clause-sync_lengths : goal.invariant_of-self-in-Ok-More-clause-sync_lengths
invariant_of-self-in-Ok-More-clause-sync_lengths g c =
    let pool = c.args.self.now in
    λ x e. subst (λ (r : RunningSync). HaveLengthsAfter (changes_at pool.changes 0) r.entries pool.synced.tree) (kept_sync _ x e) (pool.sync_lengths c.in-Some.running c.in-Some.is)

pub invariant_of-self-in-Ok-More-clause-sync_header : goal.invariant_of-self-in-Ok-More-clause-sync_header
invariant_of-self-in-Ok-More-clause-sync_header g c =
    let pool = c.args.self.now in
    λ x e. subst (λ (r : RunningSync). KeepsHeader r.group.0 (header_fields r.header) (log_shown pool.log)) (kept_sync _ x e) (pool.sync_header c.in-Some.running c.in-Some.is)

pub invariant_of-self-in-Ok-More-clause-sync_line : goal.invariant_of-self-in-Ok-More-clause-sync_line
invariant_of-self-in-Ok-More-clause-sync_line g c = sym (was_syncing c.args.self.now c.in-Some.running c.in-Some.is)

pub invariant_of-self-in-Err-clause-free_counted : goal.invariant_of-self-in-Err-clause-free_counted
invariant_of-self-in-Err-clause-free_counted g c = counted_still c.args.self.now c.in-Some.running c.next.new.self c.in-Err.ensures.counts.same c.in-Some.is

pub invariant_of-self-in-Err-clause-running : goal.invariant_of-self-in-Err-clause-running
invariant_of-self-in-Err-clause-running g c =
    let pool = c.args.self.now in
    let r = c.in-Some.running in
    let was = pool.running r c.in-Some.is in
    let counts = c.in-Err.ensures.counts in
    let left = left_as_before r.run c.next.new.self counts.same counts.done was.left in
    λ x e. subst (RunsIn pool) (kept_sync _ x e) (runs_on pool r c.next.new.self counts.same left was)

pub invariant_of-self-in-Err-clause-sync_lengths : goal.invariant_of-self-in-Err-clause-sync_lengths
invariant_of-self-in-Err-clause-sync_lengths g c =
    let pool = c.args.self.now in
    λ x e. subst (λ (r : RunningSync). HaveLengthsAfter (changes_at pool.changes 0) r.entries pool.synced.tree) (kept_sync _ x e) (pool.sync_lengths c.in-Some.running c.in-Some.is)

pub invariant_of-self-in-Err-clause-sync_header : goal.invariant_of-self-in-Err-clause-sync_header
invariant_of-self-in-Err-clause-sync_header g c =
    let pool = c.args.self.now in
    λ x e. subst (λ (r : RunningSync). KeepsHeader r.group.0 (header_fields r.header) (log_shown pool.log)) (kept_sync _ x e) (pool.sync_header c.in-Some.running c.in-Some.is)

pub invariant_of-self-in-Err-clause-sync_line : goal.invariant_of-self-in-Err-clause-sync_line
invariant_of-self-in-Err-clause-sync_line g c = sym (was_syncing c.args.self.now c.in-Some.running c.in-Some.is)

pub returns-in-Ok-clause-step : goal.returns-in-Ok-clause-step
returns-in-Ok-clause-step g c =
    let pool = c.args.self.now in
    let s = pool_shown pool in
    let is = c.in-Some.is in
    let told = c.in-Ok-Last.ensures in
    let syncing = was_syncing pool c.in-Some.running is in
    let same = kept_sync c.in-Some-take.synced _ c.in-Some-take.ensures.value in
    let finished : c.finish_sync.new.self ≡ after_sync c.in-Some-take.synced.group.0 pool.groups =
    of_group (λ n. after_sync n pool.groups) pool.groups.line.syncing c.in-Some-take.synced.group.0 _ (syncing ∙ ap (λ (r : RunningSync). Some r.group.0) (sym same)) c.in-Ok.ensures.group c.in-Ok.ensures.synced in
    let log = synced_shown c.in-Some-take.synced.group.0 (header_fields c.in-Some-take.synced.header) pool.log c.drop_synced.new.self c.give_log.new.log c.drop_synced.ensures c.give_log.ensures.kept
    ∙ (λ k. log_after_sync (same k).group.0 (header_fields (same k).header) s.log) in
    let kept = ap (λ (l : RunLog). l.kept) c.drop_synced.ensures in
    let contents = same_contents pool.changes pool.synced c.lay_oldest.new.synced c.lay_oldest.ensures.contents c.lay_oldest.new.changes c.lay_oldest.ensures.changes in
    step_synced s _ c.in-Some.running.group.0 c.in-Some-take.synced.group.0 _ c.in_ok-check_running.ensures syncing (was_planned pool c.in-Some.running is)
    (one_left c.in-Some.running.run c.next.new.self told.counts.same told.counts.done (told.counts.last.0 c.in-Ok-Last.field-0-is)) (ap (λ (r : RunningSync). r.group.0) same)
    (c.give_freed.ensures.shown ∙ rw (finished, c.take.ensures.after, c.end_charges.ensures.dirty, c.give_log.ensures.free, c.end_charges.ensures.free, blocks_of-remove)
    (λ k. shown_given ((c.deref-in-Ok-Last.ensures.value ∙ ap (λ (r : RunningSync). r.freed.items) same) k) (record s {
      line = line_after_sync (same k).group.0 s.line;
      dirty = finite.remove s.dirty (same k).group.0;
      reserved = finite.remove s.reserved (same k).group.0;
      free = set.union s.free (set.from_list (addresses_before (header_fields (same k).header) (kept k)));
      contents = contents k;
      log = log k;
      root = (c.lay_oldest.ensures.root ∙ ap (λ (r : RunningSync). r.root) same) k;
      synced_contents = c.lay_oldest.ensures.contents k;
      lengths = (same_listed (lengths_of c.lay_oldest.new.synced.tree) (lengths_after c.in-Some-take.synced.entries pool.synced.tree) c.lay_oldest.ensures.lengths
          ∙ ap (λ (r : RunningSync). listed (lengths_after r.entries pool.synced.tree)) same) k;
      sync = None;
    }))
    ∙ (λ k. record (shown_synced c.in-Some.running.group.0 (plan_of pool.synced.tree (contents_after_oldest pool) c.in-Some.running) s) {
      free = union_both s.free c.in-Some.running.freed.items (addresses_before (header_fields c.in-Some.running.header) pool.log.kept) k;
    }))

pub returns-in-Ok-More-clause-step : goal.returns-in-Ok-More-clause-step
returns-in-Ok-More-clause-step g c =
    let pool = c.args.self.now in
    let r = c.in-Some.running in
    let is = c.in-Some.is in
    let counts = c.in-Ok-More.ensures.counts in
    let left = more_left r.run c.next.new.self counts.same counts.done (pool.running r is).left (λ e. let other = sym c.in-Ok-More.field-0-is ∙ counts.last.1 e in cc) in
    let planned = planned_still pool r c.next.new.self counts.same _ (one_less r.run c.next.new.self counts.same counts.done) in
    step_more (pool_shown pool) _ r.group.0 _ c.in_ok-check_running.ensures (was_syncing pool r is) (was_planned pool r is) left.0 (λ k. record (pool_shown pool) { sync = Some (planned k) })

pub returns-in-Err-clause-step : goal.returns-in-Err-clause-step
returns-in-Err-clause-step g c =
    let pool = c.args.self.now in
    let r = c.in-Some.running in
    let told = c.in-Err.ensures in
    let planned = planned_still pool r c.next.new.self told.counts.same _ (as_many r.run c.next.new.self told.counts.same told.counts.done) in
    let same = ap (λ (q : SyncPlan). Some q) planned ∙ sym (was_planned pool r c.in-Some.is) in
    step_failed (pool_shown pool) _ r.group.0 c.in-Err.error c.in_ok-check_running.ensures (was_syncing pool r c.in-Some.is) (refused_as told.called.call c.in-Err.error told.called.refusal)
    (λ k. record (pool_shown pool) { suspended = true; sync = same k })

pub returns-in_err-check_running-clause-leads : goal.returns-in_err-check_running-clause-leads
returns-in_err-check_running-clause-leads g c = λ keeps.
    let p = err_from_is_err_and c.from_residual.result c.from_residual.ensures.1 in
    still_pool (sync_step_reply c.from_residual.result) p.0 (bytes_of (g.B.SectorDevice.disk c.args.device.now).now) c.args.self.now (ap (λ (r : Result Progress PoolError). sync_step_reply r) p.1)

pub returns-in_default-clause-leads : goal.returns-in_default-clause-leads
returns-in_default-clause-leads g c = λ keeps past later. (refl, refl, refl)

pub returns-in-Ok-clause-leads : goal.returns-in-Ok-clause-leads
returns-in-Ok-clause-leads g c = λ keeps.
    let pool = c.args.self.now in
    let is = c.in-Some.is in
    let was = pool.running c.in-Some.running is in
    let told = c.in-Ok-Last.ensures in
    let same = kept_sync c.in-Some-take.synced _ c.in-Some-take.ensures.value in
    let sized = g.met.B.SectorDevice.sized keeps c.args.device.now ∙ c.requires in
    rw (c.keep_blocks.ensures.disk ∙ c.forget_all.ensures.disk) (leads_as (reply.Synced c.in-Some.running.group) (reply.Synced c.in-Some-take.synced.group) (pool_told pool (bytes_of (g.B.SectorDevice.disk c.args.device.now).now))
    (pool_told c.give_freed.new.self (bytes_of (g.B.SectorDevice.disk c.next.new.device).now)) (ap (λ (r : RunningSync). reply.Synced r.group) (sym same))
    (synced_told pool c.in-Some.running c.next.new.self (g.B.SectorDevice.disk c.args.device.now) (g.B.SectorDevice.disk c.next.new.device) is told.counts.same sized was.geometry told.called.call told.called.next
    c.give_freed.new.self told.counts.done (told.counts.last.0 c.in-Ok-Last.field-0-is) (told.called.made keeps) (c.give_freed.ensures.sync ∙ c.take.ensures.after)
    (subst (λ (r : RunningSync). SamePlaces (pointers_of c.give_freed.new.self.synced.tree) (tree_after r pool.synced.tree)) same (subst (λ (t : SyncedTree). SamePlaces (pointers_of t.tree) (tree_after c.in-Some-take.synced pool.synced.tree)) (sym c.give_freed.ensures.synced) c.lay_oldest.ensures.pointers))))

pub returns-in-Ok-More-clause-leads : goal.returns-in-Ok-More-clause-leads
returns-in-Ok-More-clause-leads g c = λ keeps past later.
    let pool = c.args.self.now in
    let r = c.in-Some.running in
    let is = c.in-Some.is in
    let size = (pool.running r is).geometry in
    let told = c.in-Ok-More.ensures in
    let sized = g.met.B.SectorDevice.sized keeps c.args.device.now ∙ c.requires in
    let before = g.B.SectorDevice.disk c.args.device.now in
    let after = g.B.SectorDevice.disk c.next.new.device in
    let advances = advanced pool r c.next.new.self before after is told.counts.same sized size told.called.call told.called.next told.counts.done (told.called.made keeps) in
    (made_by (tree_after r pool.synced.tree) c.next.new.self, record { before = made_by (tree_after r pool.synced.tree) r.run; running = was_running pool r is; group = r.group.0; syncing = was_syncing pool r is; advances = advances }, refl, refl)

pub returns-in-Err-clause-leads : goal.returns-in-Err-clause-leads
returns-in-Err-clause-leads g c = λ keeps past later.
    let pool = c.args.self.now in
    let r = c.in-Some.running in
    let is = c.in-Some.is in
    let told = c.in-Err.ensures in
    let before = g.B.SectorDevice.disk c.args.device.now in
    let after = g.B.SectorDevice.disk c.next.new.device in
    (failed_call r.run told.called.call c.in-Err.error before after (told.called.made keeps), refl, failed_running pool r c.next.new.self is told.counts.same told.counts.done)

pub returns-in_err-check_running-clause-phases : goal.returns-in_err-check_running-clause-phases
returns-in_err-check_running-clause-phases g c = λ keeps. let p = err_from_is_err_and c.from_residual.result c.from_residual.ensures.1 in rw (p.1) (inl (refl, refl))

pub returns-in_default-clause-phases : goal.returns-in_default-clause-phases
returns-in_default-clause-phases g c = λ keeps. inl (refl, refl)

pub returns-in-Ok-clause-phases : goal.returns-in-Ok-clause-phases
returns-in-Ok-clause-phases g c = λ keeps.
    let told = c.in-Ok-Last.ensures in (
      c.in-Some.running.run,
      c.next.new.self,
      ap (λ (o : Option RunningSync). option_map (λ (r : RunningSync). r.run) o) c.in-Some.is,
      ap (λ (o : Option RunningSync). option_map (λ (r : RunningSync). r.run) o) (c.give_freed.ensures.sync ∙ c.take.ensures.after),
      told.counts.last.0 c.in-Ok-Last.field-0-is,
      record { running = c.in_ok-check_running.ensures; same = told.counts.same; written = rw (c.keep_blocks.ensures.disk ∙ c.forget_all.ensures.disk) (told.written keeps); phases = rw (c.keep_blocks.ensures.disk ∙ c.forget_all.ensures.disk) (told.phases keeps) },
    )

pub returns-in-Ok-More-clause-phases : goal.returns-in-Ok-More-clause-phases
returns-in-Ok-More-clause-phases g c = λ keeps.
    let told = c.in-Ok-More.ensures in (
      c.in-Some.running.run,
      c.next.new.self,
      ap (λ (o : Option RunningSync). option_map (λ (r : RunningSync). r.run) o) c.in-Some.is,
      refl,
      record { running = c.in_ok-check_running.ensures; same = told.counts.same; written = told.written keeps; phases = told.phases keeps },
    )

pub returns-in-Err-clause-phases : goal.returns-in-Err-clause-phases
returns-in-Err-clause-phases g c = λ keeps.
    let told = c.in-Err.ensures in
    inr (
      c.in-Some.running.run,
      c.next.new.self,
      ap (λ (o : Option RunningSync). option_map (λ (r : RunningSync). r.run) o) c.in-Some.is,
      refl,
      record { running = c.in_ok-check_running.ensures; same = told.counts.same; written = told.written keeps; phases = told.phases keeps },
    )

pub returns-in_err-check_running-clause-called : goal.returns-in_err-check_running-clause-called
returns-in_err-check_running-clause-called g c = rw c.in_err-check_running.ensures.1 refl

pub returns-in_default-clause-called : goal.returns-in_default-clause-called
returns-in_default-clause-called g c = rw (c.in_ok-check_running.ensures, c.in_default.is) refl

pub returns-in-Ok-clause-called : goal.returns-in-Ok-clause-called
returns-in-Ok-clause-called g c =
    let told = c.in-Ok-Last.ensures in
    rw (c.in_ok-check_running.ensures, c.in-Some.is)
    (record { call = told.called.call; next = told.called.next; refusal = tt; made = λ keeps. rw (c.keep_blocks.ensures.disk ∙ c.forget_all.ensures.disk) (told.called.made keeps) })

pub returns-in-Ok-More-clause-called : goal.returns-in-Ok-More-clause-called
returns-in-Ok-More-clause-called g c =
    let told = c.in-Ok-More.ensures in
    rw (c.in_ok-check_running.ensures, c.in-Some.is)
    (record { call = told.called.call; next = told.called.next; refusal = tt; made = λ keeps. told.called.made keeps })

pub returns-in-Err-clause-called : goal.returns-in-Err-clause-called
returns-in-Err-clause-called g c =
    let told = c.in-Err.ensures in
    rw (c.in_ok-check_running.ensures, c.in-Some.is)
    (record { call = told.called.call; next = told.called.next; refusal = told.called.refusal; made = λ keeps. told.called.made keeps })

pub returns-in_err-check_running-clause-count : goal.returns-in_err-check_running-clause-count
returns-in_err-check_running-clause-count g c =
    let p = err_from_is_err_and c.from_residual.result c.from_residual.ensures.1 in
    rw (p.1, p.2, c.in_err-check_running.ensures.0) refl

pub returns-in-Ok-clause-forgets : goal.returns-in-Ok-clause-forgets
returns-in-Ok-clause-forgets g c = λ running is answer.
    let same = kept_sync c.in-Some-take.synced _ c.in-Some-take.ensures.value in
    let met : c.in-Some.running ≡ running = kept_sync c.in-Some.running running (sym c.in-Some.is ∙ is) in
    let freed = c.deref.ensures.value ∙ ap (λ (r : RunningSync). r.freed.items) same ∙ ap (λ (r : RunningSync). r.freed.items) met in
    rw c.keep_blocks.ensures.cached (subst (λ (l : List ℕ). HasNoneOf l (g.B.BlockReader.cached c.forget_all.new.device)) freed c.forget_all.ensures.gone)
