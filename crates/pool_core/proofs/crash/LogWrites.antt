-- A write of the log, made or refused, keeps a pool's disk, whether a sync runs or not: its views have the block then.
use Rattle.std.proofs.Common.{◌≡◌, ◌∙◌, ◌⊎◌, inl, inr, ℕ, ◌+◌, ◌≤◌, ◌||◌, Bool, true, false, not, List, length, Option, Some, None, Result, Ok, Err, refl, ap, sym, subst, arith}
use Rattle.std.specs.Prelude.{◌≢◌, is_ok}
use Rattle.std.specs.FinSet as set
use Rattle.std.specs.FinSet.{FinSet}
use Rattle.std.specs.Ordering.{nat_cmp}
use Rattle.std.proofs.lemmas.Bool.{false≢true}
use Rattle.base.specs.kept.Layout.{header_now}
use Rattle.base.specs.kept.LogRoom.{HasImportRoom}
use Rattle.base.specs.kept.LogSteps.{IsSpareOf, shown_after_write}
use Rattle.base.specs.kept.PoolViews.{IsPoolDisk, IsPoolLaid, IsSyncConfig, IsViewOf}
use Rattle.base.specs.kept.Views.{AreConfigsUpTo, IsConfigContent, Logged, View, view_frame}
use Rattle.base.specs.declared.error.PoolError.{PoolError}
use Rattle.base.specs.declared.error.PoolError.TheVariants as error
use Rattle.base.specs.declared.pointer.Pointer.{Pointer}
use Rattle.base.specs.disk.Calls.{Writes}
use Rattle.base.specs.disk.Disk.{Apart, Disk, Moment, bytes_of, disk_size, handed, moments, wrote}
use Rattle.base.specs.disk.Fairness.{HasFairBytes}
use Rattle.base.specs.formats.Chain.{Header}
use Rattle.base.specs.formats.Geometry.{IsBlockAddress, IsGeometry, block_address, block_count, block_size, config_place}
use Rattle.base.specs.steps.Logs.{Taken}
use Rattle.base.specs.history.Past.{Past}
use Rattle.base.specs.steps.Exact.{AreDistinctPlaces}
use Rattle.base.specs.steps.Tables.{AreTablesExplained}
use Rattle.base.specs.steps.Locks.{is_in}
use Rattle.base.specs.steps.Refusals as refusal
use Rattle.base.specs.steps.Shown.{Shown, SyncPlan, taken_of}
use Rattle.base.specs.steps.Steps as steps
use Rattle.base.specs.steps.Steps.{Answers, LogWrite, State, TakesForLog, WantsMemory}
use Rattle.base.specs.kept.Stored.{IsKept}
use Rattle.base.specs.tree.Places.Place.{Root}
use Rattle.base.proofs.common.KeptLists.{All-at, All-each}
use Rattle.base.proofs.crash.KeptViews.{settled_wrote}
use Rattle.base.proofs.crash.LogHeaders.{header_now-write}
use Rattle.base.proofs.crash.PoolLogSteps.{log_write_kept}
use Rattle.base.proofs.crash.PoolLogs.{block_no_config, block_on_device, cut, links, view_written}
use Rattle.base.proofs.crash.PoolSpares.{next_is_spare}
use Rattle.base.proofs.crash.PoolViews.{OfEachView}
use Rattle.base.proofs.disk.FairBytes.{fair_bytes_wrote}
use Rattle.base.proofs.disk.Moments.{each_write, latest, starts}
use Rattle.base.proofs.disk.Put.{length-put}
use Rattle.base.proofs.formats.LabelPlaces.{block-label_apart}
use Rattle.base.proofs.stored.StoredLogs.{log_put_keeps, log_write_keeps}
use Rattle.base.proofs.stored.StoredPlaces.{kept_distinct}
use Rattle.base.proofs.stored.StoredSteps.{kept-state}
use Rattle.base.proofs.stored.StoredTrees.{address-fits}
use Rattle.tree_plans.specs.declared.planner.PlannedBlock.{PlannedBlock}
use Rattle.sync.specs.LogCalls.{IsNextLogBlock, IsNextInBoth, base_with, with_log_block}
use Rattle.sync.specs.Phases.{HoldsLogs, IsUnderWay, SyncViews}
use Rattle.sync.specs.declared.run.SyncRun.{SyncRun}
use Rattle.sync.proofs.LogWrites.{log_written}
use Rattle.pool_core.specs.KeptSafe.{AreSyncTrees, IsDiskKept, IsKeptSafe, IsOddSettled, IsSyncOnDisk, OnDisk}
use Rattle.pool_tables.specs.LogBlocks.{PutsLogBlock}
use Rattle.pool_core.proofs.crash.HeldLogs.{held_as}
use Rattle.pool_core.proofs.crash.OwnMoments.{held_of}
use Rattle.pool_core.proofs.crash.SafeMoments.{not_syncing}
use Rattle.pool_core.proofs.crash.SyncTrees.{new_kept, old_kept, old_now, trees_with}
use Rattle.pool_core.proofs.crash.ViewsKept.{stages_as, sync_configs_as}
use Rattle.pool_core.proofs.crash.ViewRooms.{HasKeptBlocks, next_apart, synced_has_room, syncing_has_room}

-- a write leaves the size of its device
pub write_size : (before after : Disk) (place : ℕ) (content : List ℕ) (r : Result (Unit {0}) PoolError) → place + length content ≤ disk_size before → Writes before place content r after → disk_size after ≡ disk_size before
write_size before after place content (Ok u) fits made = ap disk_size made ∙ length-put place content (bytes_of before.now) fits
write_size before after place content (Err e) fits (inl made) = ap disk_size made
write_size before after place content (Err e) fits (inr same) = ap disk_size same

-- A write leaves the past, whatever it answers. After one that was handed to the device the log has one block more, so
-- its tests were passed.
module _ (answer : Result ℕ PoolError) (old new : State) (h : LogWrite answer old new) where
  abbrev Made : ℕ → Type 0
  Made count = (taken : Taken) × (address : ℕ) × TakesForLog old taken address × (count ≡ length taken.ends) × (new ≡ steps.state_after_log_write taken address old)

  abbrev Refused : PoolError → Type 0
  Refused e = WantsMemory old new e ⊎ ((e ≡ error.Write) × ((taken : Taken) × (address : ℕ) × TakesForLog old taken address × (new ≡ steps.suspended_state (steps.state_after_log_write taken address old))))

  pub same_past : new.past ≡ old.past
  same_past = go answer (refusal.log_write_refusal old.shown) h
    where
      go : (a : Result ℕ PoolError) (o : Option PoolError) → Answers o a old new Made Refused → new.past ≡ old.past
      go a (Some e) d = ap (λ (x : State). x.past) d.1
      go (Ok count) None (taken, address, takes, is, same) = ap (λ (x : State). x.past) same
      go (Err e) None (inl memory) = ap (λ (x : State). x.past) memory.1
      go (Err e) None (inr (write, (taken, address, takes, same))) = ap (λ (x : State). x.past) same

  pub passed : length new.shown.log.kept ≡ length old.shown.log.kept + 1 → refusal.log_write_refusal old.shown ≡ None
  passed longer = go answer (refusal.log_write_refusal old.shown) h
    where
      go : (a : Result ℕ PoolError) (o : Option PoolError) → Answers o a old new Made Refused → o ≡ None
      go a None d = refl
      go a (Some e) d = let as_many : length new.shown.log.kept ≡ length old.shown.log.kept = ap (λ (x : State). length x.shown.log.kept) d.1 in absurd (omega (arith, as_many, longer))

-- The call, of a pool that is not suspended.
module _ (x : OnDisk) (safe : IsKeptSafe x) (answer : Result (Unit {0}) PoolError) (done : Bool) (told : ((answer ≡ Ok tt) × (done ≡ true)) ⊎ ((e : PoolError) × (answer ≡ Err e) × (done ≡ false))) (later : Shown) (after : Disk)
    (puts : PutsLogBlock answer done x.held.state.shown later x.disk after) (running : x.held.state.shown.suspended ≡ false) where
  abbrev s : Shown
  s = x.held.state.shown

  abbrev p : Past
  p = x.held.state.past

  abbrev now : List ℕ
  now = bytes_of x.disk.now

  abbrev size : ℕ
  size = length now

  abbrev l : Logged
  l = puts.block

  abbrev place : ℕ
  place = s.log.next.address

  abbrev left : FinSet nat_cmp
  left = set.remove s.free puts.address

  -- what is shown then
  abbrev pub t : Shown
  t = shown_after_write puts.taken puts.address left done s

  explained : AreTablesExplained s p
  explained = safe.held.explained

  kept : IsKept now s x.held.pointers x.held.running p
  kept = subst (λ (bytes : List ℕ). IsKept bytes s x.held.pointers x.held.running p) safe.same_bytes safe.held.kept

  places : AreDistinctPlaces now s
  places = kept_distinct now s x.held.pointers x.held.running p kept

  g : IsGeometry size
  g = kept.geometry

  counted : s.blocks ≡ block_count size
  counted = kept.stored.blocks

  whole : length l.content ≡ block_size
  whole = puts.packed.sealed.size

  pub fits : place + length l.content ≤ size
  fits = let low = address-fits s.blocks size place counted puts.packed.in_area in omega (arith, low, whole)

  -- the device holds what it should
  kept_put : (r : Result (Unit {0}) PoolError) → Writes x.disk place l.content r after → IsKept (bytes_of after.now) s x.held.pointers x.held.running p
  kept_put (Ok u) made = subst (λ (d : Disk). IsKept (bytes_of d.now) s x.held.pointers x.held.running p) (sym made) (log_put_keeps now s x.held.pointers p l.content whole x.held.running kept)
  kept_put (Err e) (inl counted) = subst (λ (d : Disk). IsKept (bytes_of d.now) s x.held.pointers x.held.running p) (sym counted) kept
  kept_put (Err e) (inr same) = subst (λ (d : Disk). IsKept (bytes_of d.now) s x.held.pointers x.held.running p) (sym same) kept

  pub kept_then : IsKept (bytes_of after.now) t x.held.pointers x.held.running p
  kept_then =
      let takes : TakesForLog x.held.state puts.taken puts.address = record { packed = puts.fits; next = puts.next } in
      let u : State = steps.state_after_log_write puts.taken puts.address x.held.state in
      kept-state (bytes_of after.now) u.shown t x.held.pointers p p x.held.running (λ group is. refl)
      (log_write_keeps (bytes_of after.now) x.held.state x.held.pointers puts.taken puts.address takes x.held.running (kept_put answer puts.writes))

  -- at rest
  idle_spare : s.line.syncing ≡ None → (laid : IsPoolLaid size x.disk.now s p) → OfEachView size x.disk.now s p (λ v. IsSpareOf v place) laid
  idle_spare idle (inl rest) = next_is_spare size x.disk.now s p x.held.pointers x.held.running explained kept refl (inl rest) tt
  idle_spare idle (inr (inl between)) = absurd (not_syncing x.disk.now s p idle between.group between.syncing)
  idle_spare idle (inr (inr switched)) = absurd (not_syncing x.disk.now s p idle switched.group switched.syncing)

  idle_written : s.line.syncing ≡ None → IsPoolDisk size x.disk.now s p → IsPoolDisk (disk_size after) after.now t p
  idle_written idle pool =
      let then : IsPoolDisk size after.now t p = (log_write_kept size g s p explained.exact.log counted puts.taken puts.address puts.fits l puts.packed left x.disk after answer done refl safe.began pool
      (idle_spare idle pool.laid) puts.writes told).1 in
      subst (λ (n : ℕ). IsPoolDisk n after.now t p) (sym then.bytes.size_is) then

  -- a block of the log is apart from the config of label 1
  odd_written : IsOddSettled size x.disk.now → IsOddSettled (disk_size after) after.now
  odd_written odd = subst (λ (n : ℕ). IsOddSettled n after.now) (sym (write_size x.disk after place l.content answer fits puts.writes))
      (latest (IsOddSettled size) x.disk after (each_write (IsOddSettled size) x.disk x.disk after place l.content answer (starts (IsOddSettled size) x.disk odd) puts.writes
      (λ d was. settled_wrote (moments x.disk) place l.content d x.disk.now fits (config_place size 1) block_size apart was)))
    where
      apart : Apart place (length l.content) (config_place size 1) block_size
      apart = subst (λ (n : ℕ). Apart place n (config_place size 1) block_size) (sym whole)
          (block-label_apart size 1 (config_place size 1) block_size place g (omega arith) (omega arith) (omega arith) (subst (λ (n : ℕ). IsBlockAddress n place) counted puts.packed.in_area))

  -- While a sync runs.
  module _ (explained_then : AreTablesExplained t p) (run : SyncRun) (y : IsSyncOnDisk run x.disk s p) where
    long : size ≡ run.geometry
    long = y.bytes.size_is

    count : s.blocks ≡ block_count run.geometry
    count = counted ∙ ap (λ (n : ℕ). block_count n) long

    of_sync : y.plan.taken ≡ taken_of s.sync
    of_sync = ap (λ (o : Option SyncPlan). taken_of o) (sym y.running)

    root : y.views.old.pointers Root ≡ s.root
    root = y.way.leads.old_view.root ∙ y.old_is.root_is

    -- the log of a view goes on with the block
    next_block : (flushed : ℕ) (v : View) (group : ℕ) (root : Pointer) (header : Header) → IsViewOf flushed v s p group root header → HasKeptBlocks now s v → IsNextLogBlock run.geometry v l
    next_block flushed v group root header is blocks = record {
      linked = links run.geometry run.sized s p explained.exact.log count puts.taken puts.address puts.fits l puts.packed left 0 done x.disk.now long flushed v group root header is;
      cut = cut run.geometry run.sized s p explained.exact.log count puts.taken puts.address puts.fits l puts.packed left 0 done x.disk.now long flushed v group root header is;
      spare = subst (λ (a : ℕ). IsSpareOf v a) (sym puts.packed.address_is) (next_apart s p explained now kept.stored.free places flushed v group root header is blocks);
    }

    next : IsNextInBoth run y.views l
    next = record {
      old = next_block y.views.flushed y.views.old s.line.synced s.root (header_now s.log) y.old_is (old_kept y.base x.disk.now run y.views y.plan.taken y.way y.trees s root of_sync);
      new = next_block y.views.new_flushed y.views.new y.group y.plan.root y.plan.header y.new_is (new_kept y.base x.disk.now run y.views y.plan.taken y.way y.trees s root of_sync);
      no_block = All-each (λ (b : PlannedBlock). block_address b.index ≢ l.block.address) run.blocks.items (λ i b at same.
          let is : is_in (block_address b.index) y.plan.taken ≡ true = All-at (λ (c : PlannedBlock). is_in (block_address c.index) y.plan.taken ≡ true) run.blocks.items i b y.trees.blocks at in
          false≢true (sym (places.log_not_taken place (inl refl)) ∙ (λ k. is_in (sym (same ∙ puts.packed.address_is) k) (sym of_sync k)) ∙ is));
    }

    made : Writes x.disk l.block.address l.content answer after
    made = subst (λ (a : ℕ). Writes x.disk a l.content answer after) (sym puts.packed.address_is) puts.writes

    abbrev with : SyncViews
    with = with_log_block l y.views

    abbrev base : List ℕ
    base = base_with answer l y.base

    way : IsUnderWay base with run after.now × HoldsLogs run with (not (is_ok answer)) after.now
    way = log_written y.base x.disk after answer y.views run l next (held_of y running) made y.way

    trees : AreSyncTrees base run with y.plan.taken
    trees = trees_with y.base x.disk.now run y.views y.plan.taken y.way y.trees l next (omega (arith, fits, long, puts.packed.address_is, y.way.made.size)) answer

    old_is : IsViewOf y.views.flushed with.old t p s.line.synced s.root (header_now t.log)
    old_is = view_written run.geometry run.sized s p explained.exact.log count puts.taken puts.address puts.fits l puts.packed left 0 done x.disk.now long
        y.views.flushed y.views.old s.line.synced s.root (header_now s.log) y.old_is (header_now t.log) (header_now-write puts.taken puts.address s.log)

    new_is : IsViewOf y.views.new_flushed with.new t p y.group y.plan.root y.plan.header
    new_is = view_written run.geometry run.sized s p explained.exact.log count puts.taken puts.address puts.fits l puts.packed left 0 done x.disk.now long
        y.views.new_flushed y.views.new y.group y.plan.root y.plan.header y.new_is y.plan.header refl

    -- a refused write suspends the pool
    refused_too : t.suspended ≡ false → not (is_ok answer) ≡ false
    refused_too off = elim told as (λ _. not (is_ok answer) ≡ false) [
      | inl (ok, good) ↦ ap (λ (r : Result (Unit {0}) PoolError). not (is_ok r)) ok
      | inr (e, bad, none) ↦ absurd (false≢true (sym off ∙ (λ k. running k || not (none k))))
    ]

    places_then : AreDistinctPlaces (bytes_of after.now) t
    places_then = kept_distinct (bytes_of after.now) t x.held.pointers x.held.running p kept_then

    old_room : HasImportRoom (block_count run.geometry) with.old
    old_room = subst (λ (n : ℕ). HasImportRoom n with.old) count
        (synced_has_room t p explained_then (bytes_of after.now) kept_then.stored.free places_then y.views.flushed with.old (view_frame run.geometry with.old) (old_now base after.now run with y.plan.taken way.0 trees) root old_is)

    new_room : HasImportRoom (block_count run.geometry) with.new
    new_room = subst (λ (n : ℕ). HasImportRoom n with.new) count
        (syncing_has_room t p explained_then (bytes_of after.now) kept_then.stored.free places_then y.views.new_flushed with.new y.group y.plan y.syncing y.running
        (new_kept base after.now run with y.plan.taken way.0 trees t root of_sync) new_is)

    -- what a read gives stays fair, and no config is written
    abbrev Plain : Moment → Type 0
    Plain m = HasFairBytes run.geometry p.created m × AreConfigsUpTo run.geometry p.created (handed m) s.guid s.line.synced (IsSyncConfig run.geometry s p)

    plain_wrote : (d : Bool) → Plain x.disk.now → Plain (wrote (moments x.disk) place l.content d x.disk.now)
    plain_wrote d was =
        let on = block_on_device run.geometry run.sized s p explained.exact.log count puts.taken puts.address puts.fits l puts.packed left (moments x.disk) d x.disk.now long in (
          fair_bytes_wrote run.geometry run.sized p.created (moments x.disk) place l.content d x.disk.now safe.began on.0 on.1 was.0,
          configs,
        )
      where
        configs : AreConfigsUpTo run.geometry p.created (handed (wrote (moments x.disk) place l.content d x.disk.now)) s.guid s.line.synced (IsSyncConfig run.geometry s p)
        configs label group name c below (inl here) is =
            absurd (block_no_config run.geometry run.sized s p explained.exact.log count puts.taken puts.address puts.fits l puts.packed left (moments x.disk) d x.disk.now long s.guid group name
            (subst (λ (b : List ℕ). IsConfigContent b run.geometry s.guid group name) (sym here.2) is))
        configs label group name c below (inr some) is = was.1 label group name c below some is

    plain : Plain after.now
    plain = latest Plain x.disk after (each_write Plain x.disk x.disk after place l.content answer (starts Plain x.disk (y.bytes, y.configs)) puts.writes plain_wrote)

    sync_written : IsSyncOnDisk run after t p
    sync_written = record {
      left = y.left;
      group = y.group;
      stages = stages_as run.stages run.geometry run.geometry s t p p y.group refl refl refl refl refl y.stages;
      plan = y.plan;
      syncing = y.syncing;
      running = y.running;
      base = base;
      views = with;
      created = y.created;
      odd = y.odd;
      way = way.0;
      old_is = old_is;
      new_is = new_is;
      apart = way.1.apart;
      old_held = held_as run.geometry y.views.created p.created y.views.flushed (not (is_ok answer)) t.suspended after.now with.old (sym y.created) refused_too way.1.old;
      new_held = held_as run.geometry y.views.created p.created y.views.new_flushed (not (is_ok answer)) t.suspended after.now with.new (sym y.created) refused_too way.1.new;
      old_room = old_room;
      new_room = new_room;
      trees = trees;
      bytes = plain.0;
      configs = sync_configs_as (handed after.now) run.geometry run.geometry s t p p refl refl refl refl refl refl (λ group syncing. refl) plain.1;
    }

  -- so the disk is kept
  pub disk_written : AreTablesExplained t p → (o : Option SyncRun) → IsDiskKept o x.disk s p → IsDiskKept o after t p
  disk_written explained_then None (idle, pool, odd) =
      let then : IsPoolDisk (disk_size after) after.now t p = idle_written idle pool in
      (idle, then, odd_written odd)
  disk_written explained_then (Some run) y = sync_written explained_then run y
