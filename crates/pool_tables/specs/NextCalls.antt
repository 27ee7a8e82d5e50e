-- The device call of a step of a sync.
use Rattle.std.specs.Prelude.{◌≡◌, Bool, true, false, Option, Some, None, Result}
use Rattle.base.specs.declared.error.PoolError.{PoolError}
use Rattle.base.specs.disk.Disk.{Disk}
use Rattle.sync.specs.Calls.{MakesNextCall}
use Rattle.pool_tables.specs.declared.pool.PoolTables.{PoolTables}
use Rattle.pool_tables.specs.declared.pool.RunningSync.{RunningSync}

-- The next device call of a running sync is made. Of a pool that is suspended, or has no running sync, the device stays
-- as it is.
abbrev pub MakesNextIf : {Dev : Type 0} → Type 0 → (Dev → Disk) → Bool → Option RunningSync → Result (Unit {0}) PoolError → Dev → Dev → Type 0
MakesNextIf keeps disk true sync answer old new = new ≡ old
MakesNextIf keeps disk false None answer old new = new ≡ old
MakesNextIf keeps disk false (Some r) answer old new = MakesNextCall keeps r.run answer (disk old) (disk new)

abbrev pub MakesNextOf : {Dev : Type 0} → Type 0 → (Dev → Disk) → PoolTables → Result (Unit {0}) PoolError → Dev → Dev → Type 0
MakesNextOf keeps disk pool answer old new = MakesNextIf keeps disk pool.suspended pool.sync answer old new
