-- What a step that neither starts a sync nor makes one of its calls keeps of a pool.
use Rattle.std.specs.Prelude.{◌≡◌, Result}
use Rattle.base.specs.declared.error.PoolError.{PoolError}
use Rattle.base.specs.declared.refused.RefusedCalls.{RefusedCalls}
use Rattle.base.specs.disk.Calls.{counted}
use Rattle.pool_tables.specs.declared.pool.PoolTables.{PoolTables}

-- an answer that is no refusal of a device: none of its calls is counted
abbrev pub IsOfNoDevice : {A : Type 0} → Result A PoolError → Type 0
IsOfNoDevice answer = (calls : RefusedCalls) → counted answer calls ≡ calls

-- a pool whose tree and running sync are as they were
pub record KeepsTree (old new : PoolTables) : Type 0 where
  pub geometry : new.geometry ≡ old.geometry
  pub tree : new.synced.tree ≡ old.synced.tree
  pub sync : new.sync ≡ old.sync
