-- At each moment of a disk that is kept, and of each call of a sync on it, every fair image mounts to a cut with every
-- acknowledged entry.
use Rattle.std.proofs.Common.{◌≡◌, ◌∙◌, inl, inr, ℕ, ◌≤◌, List, [], length, Option, Some, None, refl, sym, subst}
use Rattle.base.specs.declared.pointer.Pointer.{Pointer}
use Rattle.base.specs.kept.CrashRule.{IsRunLeft}
use Rattle.base.specs.kept.LogRoom.{HasImportRoom}
use Rattle.base.specs.kept.PoolViews.{IsPoolAtRest, IsPoolDisk, IsPoolLaid}
use Rattle.base.specs.disk.Disk.{Disk, EachMoment, IsTouched, Moment, Write, bytes_of, disk_size, moments}
use Rattle.base.specs.disk.Fairness.{LeavesFair}
use Rattle.base.specs.formats.Geometry.{block_count}
use Rattle.base.specs.history.Past.{Past}
use Rattle.base.specs.steps.Tables.{AreTablesExplained}
use Rattle.base.specs.steps.Explains.{AreSafe, MountsToCut, WereSafe}
use Rattle.base.specs.steps.Shown.{Shown}
use Rattle.base.specs.kept.Stored.{IsKept, NewTree}
use Rattle.base.specs.tree.Places.{Place}
use Rattle.base.proofs.crash.LaidOutMounts.{laid_out_safe}
use Rattle.base.proofs.crash.OwnDisks.{run_own}
use Rattle.base.proofs.crash.PoolSpares.{each_has_room}
use Rattle.base.proofs.crash.PoolViews.{OfEachView, pool_laid_out}
use Rattle.base.proofs.disk.Moments.{starts}
use Rattle.sync.specs.declared.run.SyncRun.{SyncRun}
use Rattle.sync.proofs.UnderWay.{in_phase}
use Rattle.pool_core.specs.KeptSafe.{IsDiskKept, IsKeptSafe, IsOddSettled, IsSyncOnDisk, LeavesOwn, OnDisk}
use Rattle.pool_core.proofs.crash.OwnMoments.{HasSyncViews, PhaseOf, moment_laid, moment_left, views_of, were_left}

-- a safe moment for a past, of a device of so many bytes
abbrev pub IsSafeMoment : ℕ → Past → Moment → Type 0
IsSafeMoment size past m = LeavesFair size past.created (λ image. MountsToCut image past) m

-- what was safe with a past that is the later one except for what was acknowledged
pub were_safe : (before after : Disk) (p q r : Past) → record q { acknowledged = p.acknowledged } ≡ r → EachMoment (IsSafeMoment (disk_size before) r) before after → WereSafe before after p q
were_safe before after p q r same each = subst (λ (x : Past). EachMoment (IsSafeMoment (disk_size before) x) before after) (sym same) each

module _ (s : Shown) (past : Past) (explained : AreTablesExplained s past) where
  -- a pool's disk is safe
  pub pool_safe : (disk : Disk) → IsPoolDisk (disk_size disk) disk.now s past → AreSafe disk past
  pool_safe disk kept = laid_out_safe disk s past s.contents explained.exact.log explained.exact.sync explained.exact.groups.line explained.history (pool_laid_out disk s past kept.bytes kept.laid)

  -- and so is each moment of one
  pub moment_safe : (size : ℕ) (m : Moment) → IsPoolDisk size m s past → IsSafeMoment size past m
  moment_safe size m kept = subst (λ (n : ℕ). IsSafeMoment n past m) kept.bytes.size_is
      (pool_safe (record { now = m; past = [] }) (subst (λ (n : ℕ). IsPoolDisk n m s past) (sym kept.bytes.size_is) kept))

-- While a sync has calls left its pool's disk is laid.
module _ (run : SyncRun) (disk : Disk) (s : Shown) (past : Past) (x : IsSyncOnDisk run disk s past) where
  abbrev views : HasSyncViews run.geometry disk.now s past
  views = record { group = x.group; plan = x.plan; syncing = x.syncing; running = x.running; views = x.views; are = views_of x; old_held = x.old_held; new_held = x.new_held }

  phase : PhaseOf views
  phase = in_phase x.base disk.now x.views run x.way

  pub sync_laid : IsPoolDisk (disk_size disk) disk.now s past
  sync_laid = subst (λ (n : ℕ). IsPoolDisk n disk.now s past) (sym x.bytes.size_is) (moment_laid run.geometry disk.now s past views phase x.bytes x.configs)

  -- what a crash leaves of it is the pool's own
  pub sync_left : AreTablesExplained s past → LeavesOwn (disk_size disk) past s.guid disk.now
  sync_left explained = subst (λ (n : ℕ). LeavesOwn n past s.guid disk.now) (sym x.bytes.size_is) (moment_left run.geometry disk.now s past views phase x.bytes x.configs explained)

-- where nothing is unflushed the config of label 1 is settled
pub odd_settled : (size : ℕ) (m : Moment) → m.unflushed ≡ [] → IsOddSettled size m
odd_settled size m none i from to touched = subst (λ (ws : List Write). IsTouched ws i) none touched

disk_laid : (o : Option SyncRun) (disk : Disk) (s : Shown) (past : Past) → IsDiskKept o disk s past → IsPoolDisk (disk_size disk) disk.now s past
disk_laid None disk s past kept = kept.1
disk_laid (Some run) disk s past kept = sync_laid run disk s past kept

-- While no group is syncing a pool is at rest, and leaves room for an import.
module _ (m : Moment) (s : Shown) (past : Past) (idle : s.line.syncing ≡ None) where
  pub not_syncing : (group : ℕ) → s.line.syncing ≡ Some group → ⊥
  not_syncing group syncing = let no_way : None ≡ Some group = sym idle ∙ syncing in cc

  pub idle_rest : (size : ℕ) → IsPoolLaid size m s past → IsPoolAtRest size m s past
  idle_rest size (inl rest) = rest
  idle_rest size (inr (inl between)) = absurd (not_syncing between.group between.syncing)
  idle_rest size (inr (inr switched)) = absurd (not_syncing switched.group switched.syncing)

  idle_room : (pointers : Place → Pointer) (running : Option NewTree) → AreTablesExplained s past → IsKept (bytes_of m) s pointers running past → (laid : IsPoolLaid (length (bytes_of m)) m s past)
      → OfEachView (length (bytes_of m)) m s past (λ v. HasImportRoom (block_count (length (bytes_of m))) v) laid
  idle_room pointers running explained kept (inl rest) = each_has_room (length (bytes_of m)) m s past pointers running explained kept refl (inl rest) tt
  idle_room pointers running explained kept (inr (inl between)) = absurd (not_syncing between.group between.syncing)
  idle_room pointers running explained kept (inr (inr switched)) = absurd (not_syncing switched.group switched.syncing)

disk_left : (o : Option SyncRun) (disk : Disk) (s : Shown) (past : Past) (pointers : Place → Pointer) (running : Option NewTree) → past.created ≤ moments disk → AreTablesExplained s past
    → IsKept (bytes_of disk.now) s pointers running past → IsDiskKept o disk s past → IsRunLeft disk past s.guid
disk_left None disk s past pointers running began explained held (idle, kept, odd) =
    run_own (disk_size disk) disk s past s.contents began kept explained.exact.log explained.exact.sync explained.exact.groups.line explained.history (idle_room disk.now s past idle pointers running explained held kept.laid)
disk_left (Some run) disk s past pointers running began explained held kept = record { began = began; left = sync_left run disk s past kept explained }

-- without a sync it is kept where it is laid so, and nothing is unflushed
pub idle_kept : (o : Option SyncRun) (disk : Disk) (s : Shown) (past : Past) → o ≡ None → s.line.syncing ≡ None → IsPoolDisk (disk_size disk) disk.now s past → disk.now.unflushed ≡ [] → IsDiskKept o disk s past
idle_kept o disk s past none idle pool quiet = subst (λ (q : Option SyncRun). IsDiskKept q disk s past) (sym none) (idle, pool, odd_settled (disk_size disk) disk.now quiet)

-- so a pool that keeps the crash rule is laid out as one, whether a sync runs or not
pub kept_laid : (x : OnDisk) → IsKeptSafe x → IsPoolDisk (disk_size x.disk) x.disk.now x.held.state.shown x.held.state.past
kept_laid x safe = disk_laid x.run x.disk x.held.state.shown x.held.state.past safe.kept

-- it is safe
pub kept_safe : (x : OnDisk) → IsKeptSafe x → AreSafe x.disk x.held.state.past
kept_safe x safe = pool_safe x.held.state.shown x.held.state.past safe.held.explained x.disk (kept_laid x safe)

-- and what a crash leaves of it is its own
pub kept_own : (x : OnDisk) → IsKeptSafe x → IsRunLeft x.disk x.held.state.past x.held.state.shown.guid
kept_own x safe =
    disk_left x.run x.disk x.held.state.shown x.held.state.past x.held.pointers x.held.running safe.began safe.held.explained
    (subst (λ (l : List ℕ). IsKept l x.held.state.shown x.held.pointers x.held.running x.held.state.past) safe.same_bytes safe.held.kept) safe.kept

-- where no call is made, what is safe then was so
pub stood_safe : (disk : Disk) (p q : Past) → q.acknowledged ≡ p.acknowledged → AreSafe disk q → WereSafe disk disk p q
stood_safe disk p q same safe = were_safe disk disk p q q (λ k. record q { acknowledged = sym same k }) (starts (IsSafeMoment (disk_size disk) q) disk safe)

pub stood_own : (y : OnDisk) (p : Past) → y.held.state.past.acknowledged ≡ p.acknowledged → IsKeptSafe y
    → EachMoment (LeavesOwn (disk_size y.disk) (record y.held.state.past { acknowledged = p.acknowledged }) y.held.state.shown.guid) y.disk y.disk
stood_own y p same safe =
    let q : Past = y.held.state.past in
    let guid : ℕ = y.held.state.shown.guid in
    were_left y.disk y.disk p q q guid guid (λ k. record q { acknowledged = sym same k }) refl (starts (LeavesOwn (disk_size y.disk) q guid) y.disk (kept_own y safe).left)
