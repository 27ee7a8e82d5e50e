-- Blocks that no read takes from memory any more, and those that a sync freed.
use Rattle.std.specs.Prelude.{ℕ, ◌≡◌, All, List, Some, Result, Ok}
use Rattle.base.specs.declared.error.PoolError.{PoolError}
use Rattle.object_maps.specs.Cached.{HasNoneAt}
use Rattle.pool_tables.specs.declared.pool.PoolTables.{PoolTables}
use Rattle.pool_tables.specs.declared.pool.Progress.{Progress}
use Rattle.pool_tables.specs.declared.pool.Progress.TheVariants.{Synced}
use Rattle.pool_tables.specs.declared.pool.RunningSync.{RunningSync}

-- no entry is of a block at one of these addresses
abbrev pub HasNoneOf : List ℕ → List (ℕ × List ℕ) → Type 0
HasNoneOf addresses entries = All (λ address. HasNoneAt address entries) addresses

-- once its last call was made, no entry is of a block that the sync freed
abbrev pub ForgetsFreed : Result Progress PoolError → PoolTables → List (ℕ × List ℕ) → Type 0
ForgetsFreed answer p entries = (running : RunningSync) → p.sync ≡ Some running → answer ≡ Ok (Synced running.group) → HasNoneOf running.freed.items entries
