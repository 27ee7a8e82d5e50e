-- How many device calls a sync has, and how it counts those that it made.
use Rattle.std.specs.Prelude.{ℕ, ◌≡◌, ◌+◌, ◌<◌, ◌↔◌, All, List, Option, Some, None, Result, IfOk, if◌then◌else◌, is_ok, vec_len}
use Rattle.base.specs.declared.error.PoolError.{PoolError}
use Rattle.base.specs.formats.Geometry.{IsGeometry, block_count}
use Rattle.tree_plans.specs.declared.planner.PlannedBlock.{PlannedBlock}
use Rattle.sync.specs.declared.run.SyncCall.{SyncCall}
use Rattle.sync.specs.declared.run.SyncCall.TheVariants.{Last}
use Rattle.sync.specs.declared.run.SyncRun.{SyncRun}

-- besides its blocks: two flushes and four uberblocks, and for label stages four configs and two flushes
abbrev pub other_calls : {A : Type 0} → Option A → ℕ
other_calls None = 6
other_calls (Some stages) = 12

abbrev pub call_count : SyncRun → ℕ
call_count run = vec_len run.blocks + other_calls run.stages

-- a device of so many bytes has the places of these blocks
pub record HasPlaces (size : ℕ) (blocks : List PlannedBlock) : Type 0 where
  pub sized : IsGeometry size
  pub placed : All (λ (b : PlannedBlock). b.index < block_count size) blocks

-- the same sync
pub record SameSync (old new : SyncRun) : Type 0 where
  pub geometry : new.geometry ≡ old.geometry
  pub blocks : new.blocks ≡ old.blocks
  pub uberblock : new.uberblock ≡ old.uberblock
  pub slot : new.slot ≡ old.slot
  pub stages : new.stages ≡ old.stages

-- it has made one call more, which is told as the last exactly if it is, or as many where that was refused
pub record CountsCall (old : SyncRun) (result : Result SyncCall PoolError) (new : SyncRun) : Type 0 where
  pub same : SameSync old new
  pub done : new.done ≡ (if is_ok result then old.done + 1 else old.done)
  pub last : IfOk result (λ call. (call ≡ Last) ↔ (new.done ≡ call_count new))
