-- The phases of a disk that the device calls of a running sync pass through.
use Rattle.std.specs.Prelude.{◌≡◌, ◌⊎◌, Bool, false, Option, Some, None, Result, Ok, Err, option_map}
use Rattle.base.specs.declared.error.PoolError.{PoolError}
use Rattle.base.specs.disk.Disk.{Disk}
use Rattle.sync.specs.declared.run.SyncRun.{SyncRun}
use Rattle.sync.specs.Made.{KeepsWritten}
use Rattle.sync.specs.Phases.{KeepsPhases}
use Rattle.sync.specs.Runs.{SameSync, call_count}
use Rattle.pool_tables.specs.declared.pool.PoolTables.{PoolTables}
use Rattle.pool_tables.specs.declared.pool.RunningSync.{RunningSync}
use Rattle.pool_tables.specs.declared.pool.Progress.{Progress}
use Rattle.pool_tables.specs.declared.pool.Progress.TheVariants.{More, Synced}

-- The next device call of a sync was tried, of a pool that is not suspended: what it has made then, and that each
-- moment of the call is of one of its phases.
pub record TriesNext (suspended : Bool) (run next : SyncRun) (before after : Disk) : Type 0 where
  pub running : suspended ≡ false
  pub same : SameSync run next
  pub written : KeepsWritten run next before.now after.now
  pub phases : KeepsPhases run next before after

-- A step of a sync tries the next call of the running one: it has calls left then, or that was the last, or the device
-- refused it. Refused before a call it leaves the sync and the disk.
abbrev pub StepsPhases : Result Progress PoolError → Bool → Option SyncRun → Option SyncRun → Disk → Disk → Type 0
StepsPhases (Ok More) suspended old new before after = (run next : SyncRun) × (old ≡ Some run) × (new ≡ Some next) × TriesNext suspended run next before after
StepsPhases (Ok (Synced group)) suspended old new before after =
    (run next : SyncRun) × (old ≡ Some run) × (new ≡ None) × (next.done ≡ call_count next) × TriesNext suspended run next before after
StepsPhases (Err e) suspended old new before after =
    ((new ≡ old) × (after ≡ before)) ⊎ ((run next : SyncRun) × (old ≡ Some run) × (new ≡ Some next) × TriesNext suspended run next before after)

-- the calls of the sync that runs
abbrev pub run_in : PoolTables → Option SyncRun
run_in pool = option_map (λ (r : RunningSync). r.run) pool.sync
