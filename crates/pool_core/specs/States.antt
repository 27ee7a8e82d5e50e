-- What contracts see of a running pool on its device.
use Rattle.std.specs.Prelude.{ℕ, ◌≡◌, List, Result}
use Rattle.base.specs.declared.error.PoolError.{PoolError}
use Rattle.base.specs.declared.refused.RefusedCalls.{RefusedCalls}
use Rattle.base.specs.disk.Calls.{counted}
use Rattle.base.specs.disk.Disk.{bytes_of}
use Rattle.base.specs.steps.Shown.{Shown}
use Rattle.device_model.specs.Reading.{OnlyReads}
use Rattle.device_model.specs.declared.device.SectorDevice.{Ghosts}
use Rattle.block_cache.specs.CachedDevices.{cache_of, device_in}
use Rattle.pool_core.specs.declared.state.PoolState.{PoolState}
use Rattle.pool_tables.specs.Told.{ShownPool, told_of}
use Rattle.pool_tables.specs.declared.pool.PoolTables.{PoolTables}
use Rattle.pool_tables.specs.Shows.{pool_objects, shown_of}
use Rattle.pool_tables.specs.KeptTrees.{IsOfNoDevice, KeepsTree}

module _ {Dev : Type 0} {G : Ghosts Dev} where
  -- what is shown of it
  abbrev pub shown : PoolState Dev G → Shown
  shown state = shown_of (pool_objects state.pool) state.pool

  -- its device, and the calls that the device refused
  abbrev pub device_of : PoolState Dev G → Dev
  device_of state = device_in state.device

  abbrev pub refused_calls : PoolState Dev G → RefusedCalls
  refused_calls state = G.refused (device_of state)

  -- how many tree blocks may stay in its cache
  abbrev pub cache_room_of : PoolState Dev G → ℕ
  cache_room_of state = (cache_of state.device).cap

  -- all of it but its device
  abbrev pub tables_of : PoolState Dev G → PoolTables
  tables_of state = state.pool

  -- what is told of it over these bytes, and over those of its device
  abbrev pub told_over : PoolState Dev G → List ℕ → ShownPool
  told_over state = told_of (pool_objects state.pool) state.pool

  abbrev pub told : PoolState Dev G → ShownPool
  told state = told_over state (bytes_of (G.disk (device_of state)).now)

  -- what the device refused is counted, and nothing else
  abbrev pub CountsRefused : {A : Type 0} → Result A PoolError → PoolState Dev G → PoolState Dev G → Type 0
  CountsRefused answer old new = refused_calls new ≡ counted answer (refused_calls old)

  -- no device call is made: the device is as it was, and the answer is no refusal of it
  pub record MakesNoCall {A : Type 0} (answer : Result A PoolError) (old new : PoolState Dev G) : Type 0 where
    pub device : device_of new ≡ device_of old
    pub own : IsOfNoDevice answer

  -- no call writes: the device keeps its size, and its disk where it keeps the model; a refused read is counted
  abbrev pub OnlyReadsOf : {A : Type 0} → Result A PoolError → PoolState Dev G → PoolState Dev G → Type 0
  OnlyReadsOf answer old new = OnlyReads G answer (device_of old) (device_of new)

  -- the tree and the running sync are as they were
  abbrev pub KeepsTreeOf : PoolState Dev G → PoolState Dev G → Type 0
  KeepsTreeOf old new = KeepsTree old.pool new.pool

  -- no call is made, and these are as they were
  pub record MovesNothing {A : Type 0} (answer : Result A PoolError) (old new : PoolState Dev G) : Type 0 where
    pub no_call : MakesNoCall answer old new
    pub kept : KeepsTree old.pool new.pool
