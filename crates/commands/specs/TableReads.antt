-- How a handle reads the table of names of its pool.
use Rattle.std.specs.Prelude.{ℕ, List, Option, Result}
use Rattle.base.specs.declared.error.PoolError.{PoolError}
use Rattle.running_pools.specs.Commits.{command_owner}
use Rattle.device_model.specs.declared.device.SectorDevice.{Ghosts}
use Rattle.commands.specs.NamedOps.{table_object}
use Rattle.read_commands.specs.NamedTables.{IsTableRead, table_range}
use Rattle.pool_threads.specs.Fetches.{Fetches}
use Rattle.pool_threads.specs.declared.handle.Handle.{Handle}

module _ {Dev : Type 0} {G : Ghosts Dev} where
  -- The handle read object 0, under a lock that it gave up again, and these bytes are this table. Or the read was refused.
  pub record ReadsTable (table : Result (Option (List ℕ)) PoolError) (old new : Handle Dev G) : Type 0 where
    pub read : Result (List ℕ) PoolError
    pub fetches : Fetches command_owner table_object table_range read old new
    pub is_table : IsTableRead read table
