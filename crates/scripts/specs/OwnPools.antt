-- A pool that its session steps itself: a step of it, the plans of its transactions, what it was imported as, and what
-- it keeps of its run.
use Rattle.std.specs.Prelude.{ℕ, ◌≡◌, List, Option}
use Rattle.std.specs.Option.{option_map}
use Rattle.base.specs.declared.names.TxId.{TxId}
use Rattle.base.specs.declared.operation.Shape.{Shape}
use Rattle.base.specs.declared.step.Step.{Step}
use Rattle.base.specs.declared.step.Reply.{Reply}
use Rattle.base.specs.history.Contents.{Contents}
use Rattle.base.specs.history.Past.{Past, new_past}
use Rattle.base.specs.steps.Explains.{IsLeftBy}
use Rattle.base.specs.steps.Groups.{Admission}
use Rattle.base.specs.steps.Refusals.{transaction_of}
use Rattle.base.specs.steps.Runs.{Run}
use Rattle.device_model.specs.MemState.{MemState}
use Rattle.device_model.specs.Plans.{with_plan}
use Rattle.device_model.specs.contracts.memory.MemDeviceSectorDevice.TheImpl.{ghosts}
use Rattle.device_model.specs.declared.device.SectorDevice.{Ghosts}
use Rattle.device_model.specs.declared.fault.Fault.{Fault}
use Rattle.mounted.specs.ShownMounted.{shown_of_import}
use Rattle.mounted.specs.declared.mounted.Mounted.{Mounted}
use Rattle.pool_core.specs.KeptSafe.{IsKeptSafe, IsSafeStep, on_disk}
use Rattle.pool_core.specs.States.{cache_room_of, device_of, shown, told}
use Rattle.pool_core.specs.Turns.{MakesStep}
use Rattle.pool_core.specs.declared.state.PoolState.{PoolState}

module _ {Dev : Type 0} {V : Ghosts Dev} where
  -- all that is known of a step with its reply: of what is shown, of the device and of what the device holds
  abbrev pub IsStepOf : Step → Reply → PoolState Dev V → PoolState Dev V → Type 0
  IsStepOf s reply old new = MakesStep s reply old new

  -- the plan of an open transaction
  abbrev pub open_plan : TxId → PoolState Dev V → Option (List Shape)
  open_plan tx p = option_map (λ (a : Admission). a.plan) (transaction_of tx.0 (shown p))

  -- the pool stands on this device, with a cache of so many tree blocks, and is shown as what was mounted
  pub record IsImportedPool (device : Dev) (mounted : Mounted) (cache_blocks : ℕ) (pool : PoolState Dev V) : Type 0 where
    pub device_is : device_of pool ≡ device
    pub cache_is : cache_room_of pool ≡ cache_blocks
    pub shown_is : shown pool ≡ shown_of_import mounted

  -- A run begins with contents that the run before it left: the replay of a cut of its entries with every acknowledged
  -- one. Nothing has happened in it yet, and it keeps the crash rule.
  pub record BeginsRun (earlier : Past) (dirty_max : ℕ) (pool : PoolState Dev V) : Type 0 where
    pub base : Contents
    pub left : IsLeftBy earlier base
    pub shows : (shown pool).contents ≡ base
    pub kept : IsKeptSafe (on_disk pool (new_past base earlier.created dirty_max))

  -- Steps with their replies lead the pool from this past to a later one. Each is a step of the definitions, and a
  -- crash at any moment of it leaves a cut with every acknowledged entry.
  pub record IsMadeSafely (old new : PoolState Dev V) (past : Past) : Type 0 where
    pub steps : List Step
    pub replies : List Reply
    pub later : Past
    pub run : Run IsSafeStep steps replies (on_disk old past) (on_disk new later)
    pub kept : IsKeptSafe (on_disk new later)

abbrev pub MemPool : Type 0
MemPool = PoolState MemState ghosts

-- the n-th such call of the pool's device is planned to fail, and nothing else is changed: the pool is told as before
abbrev pub IsPlannedOn : Fault → ℕ → MemPool → MemPool → Type 0
IsPlannedOn fault n old new = (device_of new ≡ with_plan fault n (device_of old)) × (told new ≡ told old)
