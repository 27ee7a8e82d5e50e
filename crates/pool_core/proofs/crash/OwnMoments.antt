-- A moment of a sync is one of its pool's disk, with room for an import in each view. So what a crash leaves at it is
-- the pool's own, with a cut of its entries.
use Rattle.std.proofs.Common.{◌≡◌, inl, inr, ℕ, ◌<◌, ◌&&◌, Bool, true, false, length, Some, refl, sym, subst, arith}
use Rattle.std.specs.Prelude.{if◌then◌else◌, nat_lt, slice_get}
use Rattle.std.proofs.lemmas.Option.{slice_get_within}
use Rattle.base.specs.declared.pointer.Pointer.{Pointer}
use Rattle.base.specs.kept.Layout.{header_now, kept_from}
use Rattle.base.specs.kept.LogRoom.{HasImportRoom}
use Rattle.base.specs.kept.LogRule.{IsLogHeld}
use Rattle.base.specs.kept.Own.{IsPhase}
use Rattle.base.specs.kept.PoolViews.{IsPoolDisk, IsPoolLaid, IsSyncConfig, IsViewOf}
use Rattle.base.specs.kept.Views.{AreConfigsUpTo, View}
use Rattle.base.specs.disk.Disk.{Disk, EachMoment, Moment, disk_size, handed}
use Rattle.base.specs.disk.Fairness.{HasFairBytes}
use Rattle.base.specs.formats.Chain.{Header}
use Rattle.base.specs.formats.Geometry.{block_count}
use Rattle.base.specs.history.Past.{Past}
use Rattle.base.specs.steps.Tables.{AreTablesExplained}
use Rattle.base.specs.steps.Shown.{Shown, SyncPlan}
use Rattle.base.proofs.crash.OwnDisks.{image_left}
use Rattle.base.proofs.crash.PoolViews.{OfEachView}
use Rattle.sync.specs.Calls.{calls_of}
use Rattle.sync.specs.Phases.{HoldsLogs, SyncViews, all_flushed, is_flush, views_after}
use Rattle.sync.specs.declared.run.SyncRun.{SyncRun}
use Rattle.pool_core.specs.KeptSafe.{IsSyncOnDisk, LeavesOwn}
use Rattle.pool_core.proofs.crash.HeldLogs.{held_as}

-- The views of a sync are that of the synced group and that of its own, and leave room for an import.
pub record AreViewsOf (size : ℕ) (s : Shown) (past : Past) (group : ℕ) (plan : SyncPlan) (v : SyncViews) : Type 0 where
  pub created : v.created ≡ past.created
  pub old_is : IsViewOf v.flushed v.old s past s.line.synced s.root (header_now s.log)
  pub new_is : IsViewOf v.new_flushed v.new s past group plan.root plan.header
  pub old_room : HasImportRoom (block_count size) v.old
  pub new_room : HasImportRoom (block_count size) v.new

-- those of a sync on disk
abbrev pub views_of : {run : SyncRun} {disk : Disk} {s : Shown} {past : Past} (x : IsSyncOnDisk run disk s past) → AreViewsOf run.geometry s past x.group x.plan x.views
views_of x = record { created = x.created; old_is = x.old_is; new_is = x.new_is; old_room = x.old_room; new_room = x.new_room }

-- and the logs that it holds while no write was refused
pub held_of : {run : SyncRun} {disk : Disk} {s : Shown} {past : Past} (x : IsSyncOnDisk run disk s past) → s.suspended ≡ false → HoldsLogs run x.views false disk.now
held_of {run} {disk} {s} {past} x off = record {
  apart = x.apart;
  old = held_as run.geometry past.created x.views.created x.views.flushed s.suspended false disk.now x.views.old x.created (λ none. off) x.old_held;
  new = held_as run.geometry past.created x.views.created x.views.new_flushed s.suspended false disk.now x.views.new x.created (λ none. off) x.new_held;
}

-- they are so with all their log blocks fixed
raised : (flushed : ℕ) (v : View) (s : Shown) (past : Past) (group : ℕ) (root : Pointer) (header : Header) → IsViewOf flushed v s past group root header → IsViewOf (length v.logged) v s past group root header
raised flushed v s past group root header is = record {
  guid = is.guid;
  group_is = is.group_is;
  root_is = is.root_is;
  import_is = is.import_is;
  header_is = is.header_is;
  replayed = is.replayed;
  as_many = is.as_many;
  blocks = is.blocks;
  flushed_are = λ i k at marked. let within : i < length (kept_from header s.log) = slice_get_within (kept_from header s.log) i k at in omega (arith, within, is.as_many);
  goes_on = is.goes_on;
  version_is = is.version_is;
  pieces = is.pieces;
}

-- and after a call of the sync
pub views_then : (size : ℕ) (s : Shown) (past : Past) (group : ℕ) (plan : SyncPlan) (run next : SyncRun) (v : SyncViews) → AreViewsOf size s past group plan v → AreViewsOf size s past group plan (views_after run next v)
views_then size s past group plan run next v are = go (is_flush (slice_get (calls_of run) run.done) && nat_lt run.done next.done)
  where
    go : (b : Bool) → AreViewsOf size s past group plan (if b then all_flushed v else v)
    go true = record {
      created = are.created;
      old_is = raised v.flushed v.old s past s.line.synced s.root (header_now s.log) are.old_is;
      new_is = raised v.new_flushed v.new s past group plan.root plan.header are.new_is;
      old_room = are.old_room;
      new_room = are.new_room;
    }
    go false = are

-- Such views with what is known of their logs at a moment.
pub record HasSyncViews (size : ℕ) (m : Moment) (s : Shown) (past : Past) : Type 0 where
  pub group : ℕ
  pub plan : SyncPlan
  pub syncing : s.line.syncing ≡ Some group
  pub running : s.sync ≡ Some plan
  pub views : SyncViews
  pub are : AreViewsOf size s past group plan views
  pub old_held : IsLogHeld size past.created views.flushed s.suspended m views.old
  pub new_held : IsLogHeld size past.created views.new_flushed s.suspended m views.new

-- while no write was refused, by the logs that a sync holds
abbrev pub views_held : (run : SyncRun) (m : Moment) (s : Shown) (past : Past) (group : ℕ) (plan : SyncPlan) → s.line.syncing ≡ Some group → s.sync ≡ Some plan → (v : SyncViews) → AreViewsOf run.geometry s past group plan v
    → HoldsLogs run v false m → HasSyncViews run.geometry m s past
views_held run m s past group plan syncing running v are holds = record {
  group = group;
  plan = plan;
  syncing = syncing;
  running = running;
  views = v;
  are = are;
  old_held = held_as run.geometry v.created past.created v.flushed false s.suspended m v.old (sym are.created) (λ off. refl) holds.old;
  new_held = held_as run.geometry v.created past.created v.new_flushed false s.suspended m v.new (sym are.created) (λ off. refl) holds.new;
}

-- the phase of a moment between them
abbrev pub PhaseOf : {size : ℕ} {m : Moment} {s : Shown} {past : Past} → HasSyncViews size m s past → Type 0
PhaseOf {size} {m} x = IsPhase size x.views.created x.views.flushed x.views.new_flushed m x.views.old x.views.new

module _ (size : ℕ) (m : Moment) (s : Shown) (past : Past) (x : HasSyncViews size m s past) (in_phase : PhaseOf x) where
  phase : IsPhase size past.created x.views.flushed x.views.new_flushed m x.views.old x.views.new
  phase = subst (λ (t : ℕ). IsPhase size t x.views.flushed x.views.new_flushed m x.views.old x.views.new) x.are.created in_phase

  -- in each phase the pool is laid, and its views have room
  abbrev laid_with_room : (laid : IsPoolLaid size m s past) × OfEachView size m s past (λ v. HasImportRoom (block_count size) v) laid
  laid_with_room = elim phase as (λ _. (laid : IsPoolLaid size m s past) × OfEachView size m s past (λ v. HasImportRoom (block_count size) v) laid) [
    | inl rest ↦ (inl (record { v = x.views.old; flushed = x.views.flushed; rest = rest; is = x.are.old_is; held = x.old_held }), x.are.old_room)
    | inr (inl between) ↦ (
      inr (inl (record {
        group = x.group;
        plan = x.plan;
        syncing = x.syncing;
        running = x.running;
        old = x.views.old;
        new = x.views.new;
        flushed = x.views.flushed;
        new_flushed = x.views.new_flushed;
        between = between;
        old_is = x.are.old_is;
        new_is = x.are.new_is;
        old_held = x.old_held;
        new_held = x.new_held;
      })),
      (x.are.old_room, x.are.new_room),
    )
    | inr (inr rest) ↦ (
      inr (inr (record { group = x.group; plan = x.plan; syncing = x.syncing; running = x.running; v = x.views.new; flushed = x.views.new_flushed; rest = rest; is = x.are.new_is; held = x.new_held })),
      x.are.new_room,
    )
  ]

  -- where no config above the synced group counts but the sync's own, it is a moment of the pool's disk
  module _ (bytes : HasFairBytes size past.created m) (known : AreConfigsUpTo size past.created (handed m) s.guid s.line.synced (IsSyncConfig size s past)) where
    pub moment_laid : IsPoolDisk size m s past
    moment_laid = record {
      bytes = bytes;
      configs = known;
      laid = laid_with_room.0;
    }

    -- and what a crash leaves then is the pool's own
    pub moment_left : AreTablesExplained s past → LeavesOwn size past s.guid m
    unfolding moment_laid
    moment_left explained = record {
      bytes = bytes;
      each = λ image left fair.
          image_left size m s past s.contents image left moment_laid fair explained.exact.log explained.exact.sync explained.exact.groups.line explained.history laid_with_room.1;
    }

-- what was left with a past that is the later one except for what was acknowledged
pub were_left : (before after : Disk) (p q r : Past) (guid other : ℕ) → record q { acknowledged = p.acknowledged } ≡ r → other ≡ guid → EachMoment (LeavesOwn (disk_size before) r guid) before after
    → EachMoment (LeavesOwn (disk_size before) (record q { acknowledged = p.acknowledged }) other) before after
were_left before after p q r guid other same of_guid each =
    subst (λ (x : Past). EachMoment (LeavesOwn (disk_size before) x other) before after) (sym same) (subst (λ (g : ℕ). EachMoment (LeavesOwn (disk_size before) r g) before after) (sym of_guid) each)
