-- The device call of a step of a sync through a cache is one of the device.
use Rattle.std.proofs.Common.{Bool, true, false, ap}
use Rattle.std.specs.Prelude.{Option, Some, None, Result}
use Rattle.base.specs.declared.error.PoolError.{PoolError}
use Rattle.device_model.specs.declared.device.SectorDevice.{Ghosts}
use Rattle.block_cache.specs.CachedDevices.{device_in}
use Rattle.block_cache.specs.declared.cached_device.CachedDevice.{CachedDevice}
use Rattle.pool_tables.specs.NextCalls.{MakesNextIf}
use Rattle.pool_tables.specs.declared.pool.RunningSync.{RunningSync}

pub made_inside : {Dev : Type 0} {G : Ghosts Dev} (keeps : Type 0) (suspended : Bool) (sync : Option RunningSync) (answer : Result (Unit {0}) PoolError) (old new : CachedDevice Dev G)
    → MakesNextIf keeps (λ (c : CachedDevice Dev G). G.disk (device_in c)) suspended sync answer old new → MakesNextIf keeps G.disk suspended sync answer (device_in old) (device_in new)
made_inside {Dev} {G} keeps true sync answer old new same = ap (λ (c : CachedDevice Dev G). device_in c) same
made_inside {Dev} {G} keeps false None answer old new same = ap (λ (c : CachedDevice Dev G). device_in c) same
made_inside keeps false (Some r) answer old new m = record { call = m.call; next = m.next; refusal = m.refusal; made = m.made }
