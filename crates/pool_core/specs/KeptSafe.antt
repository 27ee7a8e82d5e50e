-- What a pool keeps of its disk for crashes, step by step.
use Rattle.std.specs.Prelude.{ℕ, ◌≡◌, ◌≢◌, ◌≤◌, ◌<◌, ◌⊎◌, ⊤, ◌++◌, [], ◌∷◌, All, true, List, Option, Some, None}
use Rattle.base.specs.declared.step.Step as declared_step
use Rattle.base.specs.declared.step.Reply as declared_reply
use Rattle.base.specs.kept.CrashRule.{IsRunLeft}
use Rattle.base.specs.kept.Layout.{header_now}
use Rattle.base.specs.kept.LogRoom.{HasImportRoom}
use Rattle.base.specs.kept.LogRule.{IsLogHeld}
use Rattle.base.specs.kept.Own.{IsOwnImage}
use Rattle.base.specs.kept.PoolViews.{IsPoolDisk, IsSyncConfig, IsViewOf}
use Rattle.base.specs.kept.Views.{AreConfigsUpTo, IsConfigContent, IsSettled, View, view_frame}
use Rattle.base.specs.disk.Disk.{Disk, EachMoment, Moment, bytes_of, disk_size, handed, moments}
use Rattle.base.specs.disk.Fairness.{HasFairBytes, LeavesFair}
use Rattle.base.specs.formats.Fields.{no_pointer}
use Rattle.base.specs.formats.Geometry.{block_address, block_count, block_size, config_place}
use Rattle.base.specs.history.Contents.{Contents}
use Rattle.base.specs.history.Past.{Past}
use Rattle.base.specs.steps.Additions.{past_after}
use Rattle.base.specs.steps.Locks.{is_in}
use Rattle.base.specs.tree.Places.{IsPlace, Place}
use Rattle.base.specs.kept.PlacedTrees.{HoldsTree}
use Rattle.base.specs.steps.Explains.{AreSafe, Explains, IsLeftBy, WereSafe}
use Rattle.base.specs.steps.Runs.{Run}
use Rattle.base.specs.steps.Shown.{Shown, SyncPlan}
use Rattle.base.specs.kept.Stored.{Held, IsHeld}
use Rattle.device_model.specs.declared.device.SectorDevice.{Ghosts}
use Rattle.labels.specs.declared.stage.Stage.TheVariants.{Even}
use Rattle.sync.specs.declared.run.LabelStages.{LabelStages}
use Rattle.sync.specs.declared.run.SyncRun.{SyncRun}
use Rattle.tree_plans.specs.declared.planner.PlannedBlock.{PlannedBlock}
use Rattle.sync.specs.Phases.{IsApartFromLog, IsUnderWay, SyncViews}
use Rattle.sync.specs.Runs.{call_count}
use Rattle.pool_core.specs.declared.state.PoolState.{PoolState}
use Rattle.pool_tables.specs.Told.{held_with, state_with}
use Rattle.pool_core.specs.Holds.{IsStepOver}
use Rattle.pool_core.specs.NewStates.{IsHeldAtFirst, first_past}
use Rattle.pool_core.specs.States.{device_of, shown, told}
use Rattle.pool_tables.specs.SyncPhases.{run_in}

-- a pool over its disk: what is told of it with its past, the disk, and the calls of its running sync
pub record OnDisk : Type 0 where
  pub held : Held
  pub disk : Disk
  pub run : Option SyncRun

-- a block of a view's tree has this address
abbrev pub IsOfTree : View → ℕ → Type 0
IsOfTree v address = (place : Place) × IsPlace place × (v.pointers place ≢ no_pointer) × ((v.pointers place).address ≡ address)

-- The trees of a sync's views: the old one's stands in the bytes that the sync writes over. Each block of the new one's
-- is a block of that, or taken by the sync. Each block that the sync writes is taken by it.
pub record AreSyncTrees (base : List ℕ) (run : SyncRun) (v : SyncViews) (taken : List ℕ) : Type 0 where
  pub old : HoldsTree base (view_frame run.geometry v.old) v.old.pointers v.old.synced.objects
  pub new : (place : Place) → IsPlace place → v.new.pointers place ≢ no_pointer → IsOfTree v.old (v.new.pointers place).address ⊎ (is_in (v.new.pointers place).address taken ≡ true)
  pub blocks : All (λ (b : PlannedBlock). is_in (block_address b.index) taken ≡ true) run.blocks.items

-- a sync without label stages, or one that writes the config of its group, the even labels first
abbrev pub WritesConfig : Option LabelStages → ℕ → Shown → Past → ℕ → Type 0
WritesConfig None size s past group = ⊤
WritesConfig (Some stages) size s past group =
    (stages.first ≡ Even) × (c : IsSyncConfig size s past group stages.config) × IsConfigContent stages.config size s.guid group c.contents.name

-- While a sync runs: it is under way from the view of the synced group, whose config label 1 has, to that of its own.
-- The log of both is held, at no block that the sync writes, and both leave room for an import. What a read gives is
-- fair, and no config of the pool above the synced group counts, except for the one that it writes.
pub record IsSyncOnDisk (run : SyncRun) (disk : Disk) (s : Shown) (past : Past) : Type 0 where
  pub left : run.done < call_count run
  pub group : ℕ
  pub stages : WritesConfig run.stages run.geometry s past group
  pub plan : SyncPlan
  pub syncing : s.line.syncing ≡ Some group
  pub running : s.sync ≡ Some plan
  pub base : List ℕ
  pub views : SyncViews
  pub created : views.created ≡ past.created
  pub odd : views.fixed.config ≡ 1
  pub way : IsUnderWay base views run disk.now
  pub old_is : IsViewOf views.flushed views.old s past s.line.synced s.root (header_now s.log)
  pub new_is : IsViewOf views.new_flushed views.new s past group plan.root plan.header
  pub apart : All (IsApartFromLog views.old) run.blocks.items
  pub old_held : IsLogHeld run.geometry past.created views.flushed s.suspended disk.now views.old
  pub new_held : IsLogHeld run.geometry past.created views.new_flushed s.suspended disk.now views.new
  pub old_room : HasImportRoom (block_count run.geometry) views.old
  pub new_room : HasImportRoom (block_count run.geometry) views.new
  pub trees : AreSyncTrees base run views plan.taken
  pub bytes : HasFairBytes run.geometry past.created disk.now
  pub configs : AreConfigsUpTo run.geometry past.created (handed disk.now) s.guid s.line.synced (IsSyncConfig run.geometry s past)

-- the config of label 1 is settled
abbrev pub IsOddSettled : ℕ → Moment → Type 0
IsOddSettled size m = IsSettled m (config_place size 1) block_size

-- the disk is kept: at rest on the view of the synced group while no group is syncing, with a config in label 1 that is
-- settled, or on the way of the sync that runs
abbrev pub IsDiskKept : Option SyncRun → Disk → Shown → Past → Type 0
IsDiskKept None disk s past = (s.line.syncing ≡ None) × IsPoolDisk (disk_size disk) disk.now s past × IsOddSettled (disk_size disk) disk.now
IsDiskKept (Some run) disk s past = IsSyncOnDisk run disk s past

-- The crash rule of a pool with its past: the device holds what it should, a read of its disk gives these bytes, and
-- this disk, on which the create of the pool began at a moment of the past, is kept.
pub record IsKeptSafe (x : OnDisk) : Type 0 where
  pub held : IsHeld x.held
  pub same_bytes : x.held.now ≡ bytes_of x.disk.now
  pub began : x.held.state.past.created ≤ moments x.disk
  pub kept : IsDiskKept x.run x.disk x.held.state.shown x.held.state.past

-- At this moment what a read gives is fair, and every fair image that a crash leaves is one that this pool alone wrote,
-- and mounts the replay of a cut with every acknowledged entry.
abbrev pub LeavesOwn : ℕ → Past → ℕ → Moment → Type 0
LeavesOwn size past guid m = LeavesFair size past.created (λ image. (c : Contents) × IsLeftBy past c × IsOwnImage size past.created image m guid c) m

-- the past as it is within a step: what it acknowledges is told from its end on
abbrev pub past_within : OnDisk → OnDisk → Past
past_within old new = record new.held.state.past { acknowledged = old.held.state.past.acknowledged }

-- so it was at each moment of a step
abbrev pub WereOwn : OnDisk → OnDisk → Type 0
WereOwn old new = EachMoment (LeavesOwn (disk_size old.disk) (past_within old new) new.held.state.shown.guid) old.disk new.disk

-- A step of the definitions, over the bytes before it, after which the crash rule stands. At each of its moments the
-- disk was safe, and the pool's own.
pub record IsSafeStep (s : declared_step.Step) (r : declared_reply.Reply) (old new : OnDisk) : Type 0 where
  pub step : IsStepOver s r old.held new.held
  pub kept : IsKeptSafe new
  pub were : WereSafe old.disk new.disk old.held.state.past new.held.state.past
  pub own : WereOwn old new

module _ {Dev : Type 0} {G : Ghosts Dev} where
  abbrev pub disk_of : PoolState Dev G → Disk
  disk_of state = G.disk (device_of state)

  abbrev pub run_of : PoolState Dev G → Option SyncRun
  run_of state = run_in state.pool

  -- a state with a past, over the disk of its device
  abbrev pub on_disk : PoolState Dev G → Past → OnDisk
  on_disk state past = record { held = held_with (told state) past; disk = disk_of state; run = run_of state }

  -- from each past with the crash rule the step leads with this reply to the past after it, safely
  abbrev pub KeepsSafe : declared_step.Step → declared_reply.Reply → PoolState Dev G → PoolState Dev G → Type 0
  KeepsSafe s r old new = (past : Past) → IsKeptSafe (on_disk old past) → IsSafeStep s r (on_disk old past) (on_disk new (past_after s r (state_with (told old) past)))

  -- From each past with the crash rule the steps with these replies are safe ones, each over the bytes of the state
  -- before it, to a later past with the crash rule.
  abbrev pub SafeOn : List declared_step.Step → List declared_reply.Reply → PoolState Dev G → PoolState Dev G → Type 0
  SafeOn ss rs old new = (past : Past) → IsKeptSafe (on_disk old past) → (later : Past) × Run IsSafeStep ss rs (on_disk old past) (on_disk new later) × IsKeptSafe (on_disk new later)

  -- where the disk of a new state is at rest on the view of its group, and nothing is unflushed, the crash rule stands
  -- with the first past
  abbrev pub BeginsSafe : PoolState Dev G → Type 0
  BeginsSafe state = (created : ℕ) → IsHeldAtFirst (told state) → created ≤ moments (disk_of state)
      → IsPoolDisk (disk_size (disk_of state)) (disk_of state).now (shown state) (first_past (shown state) created) → (disk_of state).now.unflushed ≡ []
      → IsKeptSafe (on_disk state (first_past (shown state) created))

-- What the crash rule comes to: the past explains the pool, now and after a crash. The pool is exact, its entries are a
-- history that leads to its contents, the disk holds the synced tree and free blocks as they are shown, and every fair
-- image mounts to a cut with every acknowledged entry.
abbrev pub KeptPoolsAreExplained : Type 0
KeptPoolsAreExplained = (x : OnDisk) → IsKeptSafe x → Explains (Unit {0}) x.disk x.held.state.shown x.held.state.past

-- what the crash rule says of crashes: now every fair image mounts to a cut with every acknowledged entry
abbrev pub KeptPoolsAreSafe : Type 0
KeptPoolsAreSafe = (x : OnDisk) → IsKeptSafe x → AreSafe x.disk x.held.state.past

-- and the pool alone wrote it, so that a later import finds the pool's own disk
abbrev pub KeptPoolsLeaveTheirOwn : Type 0
KeptPoolsLeaveTheirOwn = (x : OnDisk) → IsKeptSafe x → IsRunLeft x.disk x.held.state.past x.held.state.shown.guid

-- while a sync runs, too, the disk is laid out as that of a pool
abbrev pub KeptPoolsAreLaid : Type 0
KeptPoolsAreLaid = (x : OnDisk) → IsKeptSafe x → IsPoolDisk (disk_size x.disk) x.disk.now x.held.state.shown x.held.state.past

-- a disk between the two, as a crash finds it that stops the calls that lead from the one to the other
pub record IsStoppedBetween (old ended new : Disk) : Type 0 where
  pub rest : List Moment
  pub joined : new.now ∷ new.past ≡ rest ++ ended.now ∷ ended.past
  pub since : moments old ≤ moments ended

-- so is a disk on which a crash stops a step, with all that was acknowledged before it
abbrev pub StoppedStepsAreSafe : Type 0
StoppedStepsAreSafe = (s : declared_step.Step) (r : declared_reply.Reply) (old new : OnDisk) (ended : Disk) → IsSafeStep s r old new → IsStoppedBetween old.disk ended new.disk
    → AreSafe ended (past_within old new)

abbrev pub StoppedStepsLeaveTheirOwn : Type 0
StoppedStepsLeaveTheirOwn = (s : declared_step.Step) (r : declared_reply.Reply) (old new : OnDisk) (ended : Disk) → IsKeptSafe old → IsSafeStep s r old new → IsStoppedBetween old.disk ended new.disk
    → IsRunLeft ended (past_within old new) new.held.state.shown.guid
