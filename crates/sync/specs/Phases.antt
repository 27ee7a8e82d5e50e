-- Each moment of a sync, for crashes: what a read gives stays fair, what counts is its own, and a disk at rest on the
-- view of before is so until the uberblocks are written, then between it and the view of the sync, and after the flush
-- at rest on that. The pool may write and flush its log between two calls of the sync.
use Rattle.std.specs.Prelude.{ℕ, ◌≡◌, ◌≢◌, ◌≤◌, ◌<◌, ◌+◌, ◌-◌, ◌⊎◌, ◌&&◌, All, Bool, true, false, List, Option, Some, None, if◌then◌else◌, length, nat_lt, slice_get, vec_len}
use Rattle.base.specs.formats.Fields.{part, no_pointer, number_at}
use Rattle.base.specs.formats.Geometry.{block_address, slot_place, slot_of}
use Rattle.base.specs.formats.Uberblocks.{slot_size}
use Rattle.base.specs.tree.Places.{Place, IsPlace}
use Rattle.base.specs.kept.PlacedTrees.{HoldsTree}
use Rattle.base.specs.disk.Disk.{Moment, Disk, EachMoment, bytes_of, handed, moments}
use Rattle.base.specs.disk.SyncOrder.{DeviceCall}
use Rattle.base.specs.disk.SyncOrder.DeviceCall.{Block, Config, Uberblock, Flush}
use Rattle.base.specs.disk.Fairness.{HasFairBytes, HandsOnly}
use Rattle.base.specs.kept.Views.{View, Logged, IsView, AreConfigsKnown, AreLogBlocksKnown, view_frame}
use Rattle.base.specs.kept.LogRule.{IsLogHeld}
use Rattle.base.specs.kept.Own.{IsPhase}
use Rattle.base.specs.kept.SyncCalls.{stage_calls}
use Rattle.base.specs.kept.CallStages.{FixedLabels, IsAtRestAt, IsBetweenAt, IsSwitching}
use Rattle.labels.specs.declared.stage.Stage.{Stage}
use Rattle.labels.specs.declared.stage.Stage.TheVariants.{Even, Odd}
use Rattle.labels.specs.Stages.{labels_of}
use Rattle.tree_plans.specs.declared.planner.PlannedBlock.{PlannedBlock}
use Rattle.sync.specs.declared.run.LabelStages.{LabelStages}
use Rattle.sync.specs.declared.run.SyncRun.{SyncRun}
use Rattle.sync.specs.Calls.{Target, calls_of}
use Rattle.sync.specs.Made.{BlocksWritten, HasDistinctBlocks, HasMade, IsTarget, targets_of}

-- The two views of a sync, with how many log blocks of each are flushed, and the labels that have what is fixed of the
-- old one. The create of their pool began at this moment.
pub record SyncViews : Type 0 where
  pub created : ℕ
  pub fixed : FixedLabels
  pub old : View
  pub flushed : ℕ
  pub new : View
  pub new_flushed : ℕ

-- how many calls come before the first write of the uberblock: the blocks, a flush, and the first label stage
abbrev pub calls_before_slots : SyncRun → ℕ
calls_before_slots run = vec_len run.blocks + 1 + stage_calls run.stages

abbrev pub first_label : Stage → ℕ
first_label Even = 0
first_label Odd = 1

-- the label whose config is fixed for the new view: the one that the old view has, or the first of the first stage
abbrev pub new_config_label : SyncViews → Option LabelStages → ℕ
new_config_label v None = v.fixed.config
new_config_label v (Some stages) = first_label stages.first

-- Without label stages the new view has the old one's config. With them it has theirs, of a group above the old one's,
-- and no label of the first stage has the config that the old view needs.
abbrev pub HasConfigOf : Option LabelStages → SyncViews → Type 0
HasConfigOf None v = v.new.config ≡ v.old.config
HasConfigOf (Some stages) v =
    (stages.config ≡ v.new.config) × (v.old.u.group < v.new.config_group)
    × ((k label : ℕ) → slice_get (labels_of stages.first) k ≡ Some label → label ≢ v.fixed.config)

-- a block of a tree, at an address that neither the tree nor the flushed log of the old view has
pub record IsSpareBlock (v : SyncViews) (b : PlannedBlock) : Type 0 where
  pub not_config : number_at b.block 0 ≢ 1
  pub not_log : number_at b.block 0 ≢ 6
  pub not_in_tree : (p : Place) → IsPlace p → v.old.pointers p ≢ no_pointer → block_address b.index ≢ (v.old.pointers p).address
  pub not_logged : (i : ℕ) (l : Logged) → i < v.flushed → slice_get v.old.logged i ≡ Some l → block_address b.index ≢ l.block.address

-- each log block of the new view is one of the old view, and each flushed one a flushed one
abbrev pub IsLoggedBefore : SyncViews → Type 0
IsLoggedBefore v =
    (v.new_flushed ≤ length v.new.logged)
    × ((i : ℕ) (l : Logged) → slice_get v.new.logged i ≡ Some l → (j : ℕ) × (slice_get v.old.logged j ≡ Some l) × (i < v.new_flushed → j < v.flushed))

-- where the sync's blocks stand over these bytes, the tree of the view does
abbrev pub MakesTree : List ℕ → SyncRun → View → Type 0
MakesTree base run v = (image : List ℕ) → length image ≡ length base → BlocksWritten base run.geometry run.blocks.items (vec_len run.blocks) image
    → HoldsTree image (view_frame run.geometry v) v.pointers v.synced.objects

-- The sync leads from the old view to the new one, over these bytes: what it writes is the new view's, and its blocks
-- are none of the old one's.
pub record LeadsViews (base : List ℕ) (run : SyncRun) (v : SyncViews) : Type 0 where
  pub old_view : IsView run.geometry v.old
  pub view : IsView run.geometry v.new
  pub above : v.old.u.group < v.new.u.group
  pub slot : run.slot ≡ slot_of v.new.u.group
  pub other_slot : slot_of v.old.u.group ≢ slot_of v.new.u.group
  pub uberblock : run.uberblock ≡ v.new.slot
  pub config : HasConfigOf run.stages v
  pub blocks : All (IsSpareBlock v) run.blocks.items
  pub tree : MakesTree base run v.new
  pub log : IsLoggedBefore v

-- at rest on the old view, and what counts could pass for no other config or log block of the new one
pub record IsBefore (v : SyncViews) (size : ℕ) (m : Moment) : Type 0 where
  pub rest : IsAtRestAt size v.created v.flushed v.fixed v.old m
  pub configs : AreConfigsKnown size v.created (handed m) v.new
  pub logs : AreLogBlocksKnown size v.created (handed m) v.new

-- at rest on the new view, with this label's config fixed
pub record IsBehind (v : SyncViews) (size config : ℕ) (m : Moment) : Type 0 where
  pub labels : FixedLabels
  pub config_is : labels.config ≡ config
  pub rest : IsAtRestAt size v.created v.new_flushed labels v.new m

-- at rest on the new view, with this label's config fixed, and the uberblock in one of the first so many labels
pub record IsSwitched (v : SyncViews) (size config written : ℕ) (m : Moment) : Type 0 where
  pub labels : FixedLabels
  pub config_is : labels.config ≡ config
  pub slot_below : labels.slot < written
  pub rest : IsAtRestAt size v.created v.new_flushed labels v.new m

-- between the two views, or switched: a flush has come after a write of the uberblock, before all four are made
abbrev pub IsBetweenOrSwitched : SyncViews → ℕ → ℕ → ℕ → Moment → Type 0
IsBetweenOrSwitched v size config written m = IsBetweenAt size v.created v.flushed v.new_flushed config v.fixed v.old v.new m ⊎ IsSwitched v size config written m

-- The phase of a disk when so many calls are made and the first write of the uberblock comes after so many: before it
-- at rest on the old view, from its first try to the flush after the four between the two, then at rest on the new
-- view. A flush of the log between two of the four switches to the new view at once.
pub record HasPhase (v : SyncViews) (size before config done : ℕ) (m : Moment) : Type 0 where
  pub first : done < before → IsBefore v size m
  pub switching : done ≡ before → IsSwitching size v.created v.flushed v.new_flushed config v.fixed v.old v.new m
  pub between : before < done → done < before + 5 → IsBetweenOrSwitched v size config (done - before) m
  pub stands : done ≡ before + 4 → part (bytes_of m) (slot_place size 3 (slot_of v.new.u.group)) slot_size ≡ v.new.slot
  pub behind : before + 4 < done → IsBehind v size config m

-- the phase of a disk by the calls that a sync has made
abbrev pub HasPhaseOf : SyncRun → SyncViews → Moment → Type 0
HasPhaseOf run v m = HasPhase v run.geometry (calls_before_slots run) (new_config_label v run.stages) run.done m

-- the moment is of one of the three phases
abbrev pub IsSyncPhase : SyncRun → SyncViews → Moment → Type 0
IsSyncPhase run v m = IsPhase run.geometry v.created v.flushed v.new_flushed m v.old v.new

-- the next call writes these bytes at this place
pub record IsWrittenNext (run : SyncRun) (place : ℕ) (content : List ℕ) : Type 0 where
  pub target : Target
  pub at : IsTarget (targets_of run) run.done target
  pub place_is : target.place ≡ place
  pub content_is : target.content ≡ content

-- a block is at the address of no log block of a view, flushed or not
abbrev pub IsApartFromLog : View → PlannedBlock → Type 0
IsApartFromLog v b = (i : ℕ) (l : Logged) → slice_get v.logged i ≡ Some l → block_address b.index ≢ l.block.address

-- The logs of both views are held, after a refused write or after none. No block of the sync is one of theirs.
pub record HoldsLogs (run : SyncRun) (v : SyncViews) (refused : Bool) (m : Moment) : Type 0 where
  pub apart : All (IsApartFromLog v.old) run.blocks.items
  pub old : IsLogHeld run.geometry v.created v.flushed refused m v.old
  pub new : IsLogHeld run.geometry v.created v.new_flushed refused m v.new

-- a moment of one of the phases, at which both logs are held and no write was refused
abbrev pub IsLoggedPhase : SyncRun → SyncViews → Moment → Type 0
IsLoggedPhase run v m = IsSyncPhase run v m × HoldsLogs run v false m

-- the views with all their log blocks flushed
abbrev pub all_flushed : SyncViews → SyncViews
all_flushed v = record v { flushed = length v.old.logged; new_flushed = length v.new.logged }

abbrev pub is_flush : Option DeviceCall → Bool
is_flush None = false
is_flush (Some (Block k)) = false
is_flush (Some (Config label)) = false
is_flush (Some (Uberblock label)) = false
is_flush (Some Flush) = true

-- the views after a call: a flush that was made has flushed all log blocks
abbrev pub views_after : SyncRun → SyncRun → SyncViews → SyncViews
views_after old new v = if is_flush (slice_get (calls_of old) old.done) && nat_lt old.done new.done then all_flushed v else v

-- What each moment of a call keeps, whatever the device answers: what a read gives stays fair; what counts is what
-- counted, and the call's own write; and for every two views between which the sync leads, it is one of the three
-- phases, by the calls that the sync has made. If both logs were held, they still are, and a flush fixes all their
-- blocks.
pub record KeepsPhases (run new : SyncRun) (before after : Disk) : Type 0 where
  pub fair : (t : ℕ) → t ≤ moments before → HasFairBytes run.geometry t before.now → EachMoment (HasFairBytes run.geometry t) before after
  pub hands : (t : ℕ) → EachMoment (HandsOnly t (IsWrittenNext run) (handed before.now)) before after
  pub phases : (base : List ℕ) (v : SyncViews) → LeadsViews base run v → HasMade base run (bytes_of before.now) → HasPhaseOf run v before.now
      → EachMoment (IsSyncPhase run v) before after × HasPhaseOf new v after.now
  pub logs : (base : List ℕ) (v : SyncViews) → LeadsViews base run v → HasMade base run (bytes_of before.now) → HasPhaseOf run v before.now → HoldsLogs run v false before.now
      → EachMoment (λ m. IsLoggedPhase run v m ⊎ IsLoggedPhase run (views_after run new v) m) before after × (HasPhaseOf new (views_after run new v) after.now × HoldsLogs new (views_after run new v) false after.now)

-- no label of these bytes has the uberblock of the new view
abbrev pub HasNoNewSlot : List ℕ → ℕ → SyncViews → Type 0
HasNoNewSlot base size v = (label : ℕ) → label < 4 → part base (slot_place size label (slot_of v.new.u.group)) slot_size ≢ v.new.slot

-- A sync is under way over these bytes: it leads between these views, what a read gives are the bytes with what it has
-- written so far, and the disk is in the phase of the calls that it made. The bytes are those that the disk had when
-- the sync began, with the log blocks that were written since.
pub record IsUnderWay (base : List ℕ) (v : SyncViews) (run : SyncRun) (m : Moment) : Type 0 where
  pub leads : LeadsViews base run v
  pub distinct : HasDistinctBlocks run
  pub unwritten : HasNoNewSlot base run.geometry v
  pub made : HasMade base run (bytes_of m)
  pub phase : HasPhaseOf run v m
