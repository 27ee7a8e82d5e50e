-- The plan of a group of a pool, and the sync that begins with it.
use Rattle.std.specs.Prelude.{ℕ, ◌≡◌, ◌<◌, List, map}
use Rattle.base.specs.declared.error.PoolError.{PoolError}
use Rattle.base.specs.declared.pointer.Pointer.{Pointer}
use Rattle.base.specs.formats.Uberblocks.{Uberblock}
use Rattle.base.specs.steps.Logs.{header_for}
use Rattle.base.specs.steps.Shown.{SyncPlan}
use Rattle.base.specs.kept.Stored.{frame_at}
use Rattle.sync.specs.Runs.{call_count}
use Rattle.unsynced_extents.specs.Unsynced.{name_at}
use Rattle.tree_plans.specs.declared.planner.TreePlan.{TreePlan}
use Rattle.tree_plans.specs.Plans.{address_of}
use Rattle.group_plans.specs.GroupPlans.{HoldsGroupObjects, IsRefusedShort, MakesReadTree}
use Rattle.group_plans.specs.OldMaps.{HoldsOwn}
use Rattle.tree_blocks.specs.SyncedTrees.{lengths_after}
use Rattle.pool_tables.specs.declared.pool.PoolTables.{PoolTables}
use Rattle.pool_tables.specs.declared.pool.RunningSync.{RunningSync}
use Rattle.pool_tables.specs.RunningUberblocks.{uberblock_with}
use Rattle.pool_tables.specs.Shows.{contents_after_oldest, new_plan, pool_shown}

-- it makes of a pool's tree that of its oldest unsynced group, which is this one, whichever pointers were read
abbrev pub MakesOldestTree : PoolTables → ℕ → TreePlan → Type 0
MakesOldestTree pool group p = MakesReadTree (frame_at (pool_shown pool) group) pool.synced.tree pool.log.records (contents_after_oldest pool).objects p

-- its pointers before are those of the pool's tree, and its blocks hold the objects after that group
abbrev pub HoldsOldestObjects : PoolTables → ℕ → TreePlan → Type 0
HoldsOldestObjects pool group p = HoldsGroupObjects (frame_at (pool_shown pool) group) pool.synced.tree pool.log.records (contents_after_oldest pool).objects p

-- the bytes hold a pool's synced tree
abbrev pub HoldsSyncedTree : PoolTables → List ℕ → Type 0
HoldsSyncedTree pool now = HoldsOwn now (frame_at (pool_shown pool) (pool_shown pool).line.synced) pool.synced.tree

-- refused NoSpace, the pool is short of blocks for it
abbrev pub IsPoolShort : PoolTables → ℕ → PoolError → Type 0
IsPoolShort pool group e = IsRefusedShort group pool.synced.tree pool.log.records (contents_after_oldest pool).objects pool.free.free e

-- a sync of a plan that has made no call yet
pub record BeginsPlan (p : TreePlan) (r : RunningSync) : Type 0 where
  pub blocks : r.run.blocks ≡ p.blocks
  pub done : r.run.done ≡ 0
  pub left : r.run.done < call_count r.run
  pub entries : r.entries ≡ p.entries
  pub directories : r.directories ≡ p.directories
  pub root : r.root ≡ p.root

-- what is shown of it, with this moment and the log header for its group, and its uberblock
abbrev pub begun_plan : PoolTables → ℕ → ℕ → TreePlan → SyncPlan
begun_plan pool group moment p = new_plan moment (name_at pool.changes 0) (header_for group (pool_shown pool).log) (map address_of p.blocks.items) p.freed.items p.root (contents_after_oldest pool) (lengths_after p.entries pool.synced.tree)

abbrev pub uberblock_for : PoolTables → ℕ → ℕ → Pointer → Uberblock
uberblock_for pool group moment root = uberblock_with pool.guid pool.import_number (header_for group (pool_shown pool).log) group moment root
