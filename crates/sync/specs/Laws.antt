-- What holds of each sync.
use Rattle.std.specs.Prelude.{ℕ, ◌≡◌, ◌<◌, ◌⊎◌, false, not, List, Some, Result, Ok, is_ok}
use Rattle.base.specs.declared.error.PoolError.{PoolError}
use Rattle.base.specs.kept.Views.{Logged}
use Rattle.base.specs.disk.Calls.{Flushes, Writes}
use Rattle.base.specs.disk.Disk.{Moment, Disk, EachMoment, bytes_of}
use Rattle.base.specs.disk.Fairness.{HasFairBytes}
use Rattle.base.specs.formats.Geometry.{IsGeometry, IsWritable, config_place}
use Rattle.sync.specs.declared.run.LabelStages.{LabelStages}
use Rattle.sync.specs.declared.run.SyncRun.{SyncRun}
use Rattle.sync.specs.Calls.{Target}
use Rattle.sync.specs.Made.{BlocksWritten, HasDistinctBlocks, HasMade, IsTarget, KeepsWritten, targets_of}
use Rattle.sync.specs.LogCalls.{IsNextInBoth, base_with, with_log_block}
use Rattle.sync.specs.Phases.{SyncViews, LeadsViews, HoldsLogs, IsBefore, IsBehind, IsLoggedPhase, IsSyncPhase, IsUnderWay, IsWrittenNext, KeepsPhases, all_flushed, new_config_label, views_after}
use Rattle.sync.specs.Runs.{SameSync, call_count}

-- all that a sync writes lies in the block area, or after the boot header of a label
abbrev pub CallsAreWritable : Type 0
CallsAreWritable = (run : SyncRun) → IsGeometry run.geometry → (k : ℕ) (t : Target) → IsTarget (targets_of run) k t → IsWritable run.geometry t.place t.size

-- before its first call a sync has made nothing
abbrev pub SyncsBeginWithNothing : Type 0
SyncsBeginWithNothing = (base : List ℕ) (run : SyncRun) → run.done ≡ 0 → HasMade base run base

-- of the block area a sync has changed the blocks that it wrote, and no other byte
abbrev pub BlocksAreWritten : Type 0
BlocksAreWritten = (base image : List ℕ) (run : SyncRun) → IsGeometry run.geometry → HasMade base run image → BlocksWritten base run.geometry run.blocks.items run.done image

-- A sync begins at rest on its old view, with what a read gives fair.
abbrev pub SyncsBeginAtRest : Type 0
SyncsBeginAtRest = (m : Moment) (v : SyncViews) (run : SyncRun) → run.done ≡ 0 → HasDistinctBlocks run → LeadsViews (bytes_of m) run v → IsBefore v run.geometry m
    → HasFairBytes run.geometry v.created m → IsUnderWay (bytes_of m) v run m

-- a sync that is under way is in one of the phases
abbrev pub SyncsHavePhases : Type 0
SyncsHavePhases = (base : List ℕ) (m : Moment) (v : SyncViews) (run : SyncRun) → IsUnderWay base v run m → IsSyncPhase run v m

-- each moment of a call of a sync that is under way is of one of the phases, and after the call it is under way
abbrev pub SyncsKeepPhases : Type 0
SyncsKeepPhases = (base : List ℕ) (before after : Disk) (v : SyncViews) (old new : SyncRun) → SameSync old new → KeepsWritten old new before.now after.now → KeepsPhases old new before after
    → IsUnderWay base v old before.now → EachMoment (IsSyncPhase old v) before after × IsUnderWay base v new after.now

-- and if the logs of both views were held, they still are, at each moment of the call. A flush fixes all their blocks.
abbrev pub SyncsHoldLogs : Type 0
SyncsHoldLogs = (base : List ℕ) (before after : Disk) (v : SyncViews) (old new : SyncRun) → SameSync old new → KeepsWritten old new before.now after.now → KeepsPhases old new before after
    → IsUnderWay base v old before.now → HoldsLogs old v false before.now
    → EachMoment (λ m. IsLoggedPhase old v m ⊎ IsLoggedPhase old (views_after old new v) m) before after
    × (IsUnderWay base (views_after old new v) new after.now × HoldsLogs new (views_after old new v) false after.now)

-- A log block may be written between two calls of a sync, whatever the device answers. The sync is under way then over
-- its bytes with the block, and both views have it. Their logs are held, after a refused write if it was refused.
abbrev pub SyncsTakeLogBlocks : Type 0
SyncsTakeLogBlocks = (base : List ℕ) (before after : Disk) (answer : Result (Unit {0}) PoolError) (v : SyncViews) (run : SyncRun) (l : Logged) → IsNextInBoth run v l
    → HoldsLogs run v false before.now → Writes before l.block.address l.content answer after → IsUnderWay base v run before.now
    → IsUnderWay (base_with answer l base) (with_log_block l v) run after.now × HoldsLogs run (with_log_block l v) (not (is_ok answer)) after.now

-- The log may be flushed between two calls of a sync. All log blocks of both views are fixed then.
abbrev pub SyncsTakeLogFlushes : Type 0
SyncsTakeLogFlushes = (base : List ℕ) (before after : Disk) (v : SyncViews) (run : SyncRun) → HoldsLogs run v false before.now → Flushes before (Ok tt) after → IsUnderWay base v run before.now
    → IsUnderWay base (all_flushed v) run after.now × HoldsLogs run (all_flushed v) false after.now

-- after its last call a sync is at rest on its new view
abbrev pub SyncsEndAtRest : Type 0
SyncsEndAtRest = (base : List ℕ) (m : Moment) (v : SyncViews) (run : SyncRun) → run.done ≡ call_count run → IsUnderWay base v run m → IsBehind v run.geometry (new_config_label v run.stages) m

-- what a sync writes at the place of a label's config is the config of its label stages
abbrev pub ConfigsAreStaged : Type 0
ConfigsAreStaged = (run : SyncRun) → IsGeometry run.geometry → (label : ℕ) (content : List ℕ) → label < 4 → IsWrittenNext run (config_place run.geometry label) content
    → (stages : LabelStages) × (run.stages ≡ Some stages) × (content ≡ stages.config)
