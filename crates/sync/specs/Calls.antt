-- What each call of a sync does.
use Rattle.std.specs.Prelude.{ℕ, ⊤, true, ◌≡◌, ◌+◌, ◌<◌, ◌≤◌, List, [], Option, Some, None, Result, Ok, Err, IfErr, IfSome, is_some, length, slice_get, vec_len}
use Rattle.std.specs.Option.{IsSomeAnd, option_map}
use Rattle.base.specs.disk.DiskCalls.{DiskCall, MakesDiskCall}
use Rattle.base.specs.disk.DiskCalls.DiskCall.{Put, Settle}
use Rattle.base.specs.declared.error.PoolError.{PoolError}
use Rattle.base.specs.declared.error.PoolError.TheVariants as refusal
use Rattle.base.specs.disk.Disk.{Disk}
use Rattle.base.specs.formats.Geometry.{block_address, block_size, config_place, slot_place}
use Rattle.base.specs.disk.SyncOrder.{DeviceCall, calls_in_order}
use Rattle.base.specs.disk.SyncOrder.DeviceCall.{Block, Config, Uberblock, Flush}
use Rattle.labels.specs.Stages.{labels_of}
use Rattle.tree_plans.specs.declared.planner.PlannedBlock.{PlannedBlock}
use Rattle.sync.specs.declared.run.LabelStages.{LabelStages}
use Rattle.sync.specs.declared.run.SyncRun.{SyncRun}
use Rattle.sync.specs.CallOrder.{stage_after}

-- the labels of the first stage
abbrev pub first_labels : Option LabelStages → List ℕ
first_labels None = []
first_labels (Some stages) = labels_of stages.first

-- the labels of the last stage
abbrev pub last_labels : Option LabelStages → List ℕ
last_labels None = []
last_labels (Some stages) = labels_of (stage_after stages.first)

-- the calls of the sync, in order
abbrev pub calls_of : SyncRun → List DeviceCall
calls_of run = calls_in_order (vec_len run.blocks) (is_some run.stages) (first_labels run.stages) (last_labels run.stages)

-- this is the call that the sync makes next
abbrev pub IsNextCall : SyncRun → DeviceCall → Type 0
IsNextCall run call = slice_get (calls_of run) run.done ≡ Some call

-- what a call writes: these bytes, so many of them, at this place
pub record Target : Type 0 where
  pub place : ℕ
  pub size : ℕ
  pub content : List ℕ

abbrev pub block_target : PlannedBlock → Target
block_target b = record { place = block_address b.index; size = block_size; content = b.block }

abbrev pub config_target : ℕ → ℕ → LabelStages → Target
config_target size label stages = record { place = config_place size label; size = block_size; content = stages.config }

-- A block is written at its address, a config into its label, the uberblock into its slot of a label. A flush writes
-- nothing.
abbrev pub target_among : (size : ℕ) (blocks : List PlannedBlock) (stages : Option LabelStages) (slot : ℕ) (uberblock : List ℕ) → DeviceCall → Option Target
target_among size blocks stages slot uberblock (Block k) = option_map block_target (slice_get blocks k)
target_among size blocks stages slot uberblock (Config label) = option_map (config_target size label) stages
target_among size blocks stages slot uberblock (Uberblock label) = Some (record { place = slot_place size label slot; size = 1024; content = uberblock })
target_among size blocks stages slot uberblock Flush = None

-- the target of a call of the sync
abbrev pub target_of : SyncRun → DeviceCall → Option Target
target_of run = target_among run.geometry run.blocks.items run.stages run.slot run.uberblock

-- the call of the disk that a call of the sync is: a flush settles, and any other puts its target
abbrev pub disk_call_of : SyncRun → DeviceCall → Option DiskCall
disk_call_of run Flush = Some Settle
disk_call_of run call = option_map (λ t. Put t.place t.content) (target_of run call)

-- it is made, with this answer
abbrev pub MakesCall : SyncRun → DeviceCall → Disk → Result (Unit {0}) PoolError → Disk → Type 0
MakesCall run call old result new = IsSomeAnd (disk_call_of run call) (λ c. MakesDiskCall c old result new)

-- the sync has what the call takes
abbrev pub HasCall : SyncRun → DeviceCall → Type 0
HasCall run (Block k) = k < vec_len run.blocks
HasCall run (Config label) = (is_some run.stages ≡ true) × (label < 4)
HasCall run (Uberblock label) = label < 4
HasCall run Flush = ⊤

-- the refusal of a call that the device fails
abbrev pub refusal_of : DeviceCall → PoolError
refusal_of Flush = refusal.Flush
refusal_of call = refusal.Write

-- the bytes of a call's target are as many as it has, and it lies on the device
abbrev pub TargetFits : SyncRun → DeviceCall → Type 0
TargetFits run call = IfSome (target_of run call) (λ t. (length t.content ≡ t.size) × (t.place + t.size ≤ run.geometry))

-- The call that a sync makes next is made, on a device that keeps the model, and where it is refused, it is as what it
-- is.
pub record MakesNextCall (keeps : Type 0) (run : SyncRun) (answer : Result (Unit {0}) PoolError) (old new : Disk) : Type 0 where
  pub call : DeviceCall
  pub next : IsNextCall run call
  pub refusal : IfErr answer (λ e. e ≡ refusal_of call)
  pub made : keeps → MakesCall run call old answer new

-- an answer without its value
abbrev pub plain_answer : {A : Type 0} → Result A PoolError → Result (Unit {0}) PoolError
plain_answer (Ok x) = Ok tt
plain_answer (Err e) = Err e
