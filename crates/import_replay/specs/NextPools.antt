-- The pool that an import is about to sync and mount: what it owes to the image that was read.
use Rattle.std.specs.Prelude.{ℕ, ◌≡◌, ◌≢◌, ◌+◌, ◌<◌, ◌≤◌, ◌⊎◌, All, IsTrue, List, length, map, IfSome}
use Rattle.std.specs.Ordering.{nat_cmp}
use Rattle.std.specs.FinMap as finite
use Rattle.std.specs.FinMap.{FinMap}
use Rattle.std.specs.FinSet.{FinSet}
use Rattle.base.specs.common.Rising.{rising}
use Rattle.base.specs.tree.Mount.{IsUsed, records_above}
use Rattle.base.specs.declared.error.PoolError.{PoolError}
use Rattle.base.specs.declared.error.PoolError.TheVariants.{NoSpace}
use Rattle.base.specs.declared.pointer.Pointer.{Pointer}
use Rattle.base.specs.disk.Disk.{bytes_of}
use Rattle.base.specs.formats.Blocks.{Frame}
use Rattle.base.specs.formats.Chain.{LogPiece, chain_addresses}
use Rattle.base.specs.formats.Fields.{number_at}
use Rattle.base.specs.formats.Geometry.{IsBlockAddress, block_address, block_count}
use Rattle.base.specs.formats.Uberblocks.{Uberblock}
use Rattle.base.specs.formats.Versions.{written_version}
use Rattle.base.specs.history.Contents as history
use Rattle.base.specs.formats.Names.{IsName}
use Rattle.base.specs.kept.PlacedTrees.{ArePlaced}
use Rattle.base.specs.tree.Places.{IsPlace, Place}
use Rattle.device_model.specs.declared.device.SectorDevice.{Ghosts}
use Rattle.extents.specs.Synced.{patched_contents}
use Rattle.extents.specs.Tables.{name_of, patches_of}
use Rattle.group_plans.specs.GroupPlans.{FitsIn, HoldsGroupObjects, IsHeldRefusal, IsPlanRefusal, IsShortOfBlocks, MakesReadTree, TakesLowest, objects_with, plan_pointers}
use Rattle.group_plans.specs.OldMaps.{HoldsOwn}
use Rattle.log_replay.specs.Replays.{IsReplay}
use Rattle.contents.specs.ContentsShown.{contents_of}
use Rattle.trees.specs.FreeBlocks.{AreUnnamed}
use Rattle.tree_blocks.specs.TreeObjects.{objects_of}
use Rattle.trees.specs.Loading.{IsLimitedObject}
use Rattle.tree_blocks.specs.Pointers.{pointers_of}
use Rattle.contents.specs.declared.synced_tree.SyncedTree.{SyncedTree}
use Rattle.tree_blocks.specs.declared.tree.Tree.{Tree}
use Rattle.space.specs.FreeSets.{IsIdle}
use Rattle.tree_plans.specs.Plans.{address_of}
use Rattle.tree_plans.specs.declared.planner.PlannedBlock.{PlannedBlock}
use Rattle.tree_plans.specs.declared.planner.TreePlan.{TreePlan}
use Rattle.import_replay.specs.PlacedRecords.{placed_estimate}
use Rattle.import_replay.specs.FreeBlocks.{AreAllOthers, AreAllPlanned, AreUnused, IsLeftByPlan, IsLowestLeft, IsNamed}
use Rattle.import_replay.specs.ImportViews.{IsTreeMade, ViewTree}
use Rattle.import_replay.specs.LabelSyncs.{AreApartIn}
use Rattle.import_replay.specs.ReadPools.{frame_of_size}
use Rattle.import_replay.specs.TakenBlocks.{AreForEachPlace, AreLowestSpare}
use Rattle.import_replay.specs.declared.next_pool.NextPool.{NextPool}
use Rattle.import_replay.specs.declared.next_pool.ReplayedPool.{ReplayedPool}

-- the parts of a pool that an import syncs and mounts
pub record PoolParts : Type 0 where
  pub contents : SyncedTree
  pub free : FinSet nat_cmp
  pub log_address : ℕ
  pub records : ℕ

abbrev pub pool_parts : NextPool → PoolParts
pool_parts next = record { contents = next.contents; free = next.free.free; log_address = next.log_address; records = next.records }

-- its tree as that of a view
abbrev pub tree_of : PoolParts → ViewTree
tree_of p = record { pointers = pointers_of p.contents.tree; contents = contents_of p.contents }

-- the frame of an import of this active uberblock, on a device of so many bytes
abbrev pub next_frame : Uberblock → ℕ → Frame
next_frame u size = record { version = written_version; guid = u.guid; blocks = block_count size; group = u.group + 4 }

-- the pool has contents within the limits
pub record AreWithinLimits (p : PoolParts) : Type 0 where
  pub named : IsName p.contents.name
  pub bounded : (n : ℕ) → IfSome (finite.get (objects_of p.contents.tree) n) (IsLimitedObject n)

-- On a device of so many bytes it has such contents and such a tree. The first log block lies in the area, and the free
-- blocks are all others.
pub record ArePartsFor (size : ℕ) (p : PoolParts) : Type 0 where
  pub within : AreWithinLimits p
  pub log_block : IsBlockAddress (block_count size) p.log_address
  pub free : AreAllOthers (pointers_of p.contents.tree) (block_count size) p.log_address p.free

-- a block of a tree, at an address that neither the image's tree nor this chain has
pub record IsUnusedBlock (image : List ℕ) (u : Uberblock) (chain : List LogPiece) (b : PlannedBlock) : Type 0 where
  pub not_config : number_at b.block 0 ≢ 1
  pub not_log : number_at b.block 0 ≢ 6
  pub unused : IsUsed image u.root chain (block_address b.index) → ⊥

-- Over an image of so many bytes with this active uberblock and chain: the blocks take no block of these and make the
-- pool's tree, and are no more than the chain's records above the group are estimated at. They lie at the lowest spare
-- addresses, one for each place that these records write. So many records were replayed. The first log block is the
-- lowest that neither the image's tree, nor the chain, nor the pool's tree has.
pub record AreMadeOver (image : List ℕ) (u : Uberblock) (chain : List LogPiece) (size : ℕ) (blocks : List PlannedBlock) (p : PoolParts) : Type 0 where
  pub tree : IsTreeMade image size blocks (next_frame u size) (tree_of p)
  pub unused : All (IsUnusedBlock image u chain) blocks
  pub few : length blocks ≤ placed_estimate (records_above u.group chain)
  pub lowest : AreLowestSpare image u chain (map address_of blocks)
  pub each : AreForEachPlace image u chain (pointers_of p.contents.tree) (map address_of blocks)
  pub records : p.records ≡ length (records_above u.group chain)
  pub log_unused : IsUsed image u.root chain p.log_address → ⊥
  pub log_unnamed : IsNamed (pointers_of p.contents.tree) p.log_address → ⊥
  pub log_lowest : (other : ℕ) → other < p.log_address → IsBlockAddress (block_count size) other → IsUsed image u.root chain other ⊎ IsNamed (pointers_of p.contents.tree) other

-- the contents of this name and this tree
abbrev pub synced_with : List ℕ → Tree → history.Contents
synced_with name tree = record { name = name; objects = objects_of tree }

-- The pool that was loaded, with this name, this tree and this chain: the records of the chain above the
-- group were replayed on its contents. The free blocks are those that no pointer of the tree names, and the spare ones
-- are no block of the chain either.
pub record IsReplayedPool (size group : ℕ) (name : List ℕ) (tree : Tree) (chain : List LogPiece) (pool : ReplayedPool) : Type 0 where
  pub tree_is : pool.synced.tree ≡ tree
  pub name_is : pool.synced.name ≡ name
  pub free : AreUnnamed (block_count size) pool.synced.tree pool.free
  pub spare : AreUnused (pointers_of pool.synced.tree) (chain_addresses chain) (block_count size) pool.spare.free
  pub sized : pool.spare.blocks ≡ block_count size
  pub replayed : IsReplay group (contents_of pool.synced) chain pool.replayed

-- the objects that the records leave
abbrev pub objects_replayed : ReplayedPool → FinMap nat_cmp (List ℕ)
objects_replayed pool = objects_with pool.replayed.extents pool.synced.tree

-- the device keeps the model, and holds the tree that was loaded for this active uberblock, with its objects
abbrev pub HoldsLoaded : {Dev : Type 0} (D : Ghosts Dev) (device : Dev) → ℕ → Uberblock → ReplayedPool → Type 0
HoldsLoaded D device size u pool = IsTrue D.keeps_model × HoldsOwn (bytes_of (D.disk device).now) (frame_of_size u size) pool.synced.tree

-- a plan makes of its tree that of these objects, as the tree of an import's group, whichever pointers to records were
-- read
abbrev pub MakesReadNext : ℕ → Uberblock → ReplayedPool → TreePlan → Type 0
MakesReadNext size u pool plan = MakesReadTree (next_frame u size) pool.synced.tree pool.replayed.records.items (objects_replayed pool) plan

-- and so from the pointers of the tree, with blocks that hold the objects
abbrev pub HoldsNextObjects : ℕ → Uberblock → ReplayedPool → TreePlan → Type 0
HoldsNextObjects size u pool plan = HoldsGroupObjects (next_frame u size) pool.synced.tree pool.replayed.records.items (objects_replayed pool) plan

-- the spare blocks are too few for that tree
abbrev pub IsShortPlan : Uberblock → ReplayedPool → Type 0
IsShortPlan u pool = (old : Place → Pointer) × IsShortOfBlocks (u.group + 4) pool.replayed.records.items pool.synced.tree.entries.items old (objects_replayed pool) (rising pool.spare.free)

abbrev pub TellsShortPlan : Uberblock → ReplayedPool → PoolError → Type 0
TellsShortPlan u pool e = e ≡ NoSpace → IsShortPlan u pool

-- and so of the pointers that the tree has
abbrev pub IsShortTree : Uberblock → ReplayedPool → Type 0
IsShortTree u pool = IsShortOfBlocks (u.group + 4) pool.replayed.records.items pool.synced.tree.entries.items (pointers_of pool.synced.tree) (objects_replayed pool) (rising pool.spare.free)

abbrev pub TellsShortTree : Uberblock → ReplayedPool → PoolError → Type 0
TellsShortTree u pool e = e ≡ NoSpace → IsShortTree u pool

-- or its plan takes all of them, and leaves none for the log
abbrev pub TakesAll : ℕ → Uberblock → ReplayedPool → Type 0
TakesAll size u pool = (plan : TreePlan) × MakesReadNext size u pool plan × AreAllPlanned pool.spare plan.blocks.items

abbrev pub LacksBlocks : ℕ → Uberblock → ReplayedPool → Type 0
LacksBlocks size u pool = IsShortPlan u pool ⊎ TakesAll size u pool

-- and so of a plan from the pointers that the tree has
abbrev pub LacksTreeBlocks : ℕ → Uberblock → ReplayedPool → Type 0
LacksTreeBlocks size u pool = IsShortTree u pool ⊎ ((plan : TreePlan) × HoldsNextObjects size u pool plan × AreAllPlanned pool.spare plan.blocks.items)

-- The pool is refused: there is no memory, blocks lack, or a block could not be read. Where this holds, no block that
-- was read is damaged, and blocks lack for the pointers that the tree has.
pub record IsNextRefused (holds : Type 0) (size : ℕ) (u : Uberblock) (pool : ReplayedPool) (e : PoolError) : Type 0 where
  pub kind : IsPlanRefusal e
  pub sound : holds → IsHeldRefusal e
  pub full : e ≡ NoSpace → LacksBlocks size u pool
  pub lacks : holds → e ≡ NoSpace → LacksTreeBlocks size u pool

-- The pool has the tree of a plan, which takes the lowest spare blocks, and the contents that the records leave. Where
-- this holds, the plan's blocks hold the objects of these. The first log block is the lowest spare one that the plan
-- leaves. The free blocks are those that were free, without these, and with those that the plan replaces.
pub record IsPlannedPool (holds : Type 0) (size : ℕ) (u : Uberblock) (pool : ReplayedPool) (next : NextPool) : Type 0 where
  pub plan : TreePlan
  pub fits : FitsIn size plan
  pub taken : TakesLowest pool.spare.free plan
  pub made : MakesReadNext size u pool plan
  pub objects : holds → HoldsNextObjects size u pool plan
  pub blocks_are : next.blocks.items ≡ plan.blocks.items
  pub pointers : (place : Place) → IsPlace place → pointers_of next.contents.tree place ≡ plan_pointers pool.synced.tree plan place
  pub contents_are : contents_of next.contents ≡ patched_contents (patches_of pool.replayed.extents) (name_of pool.replayed.extents) (contents_of pool.synced)
  pub log_block : ℕ
  pub log_is : next.log_address ≡ block_address log_block
  pub lowest : IsLowestLeft pool.spare plan.blocks.items log_block
  pub free : IsLeftByPlan plan log_block pool.free next.free
  pub sized : next.free.blocks ≡ block_count size
  pub idle : IsIdle next.free
  pub records_are : next.records ≡ length pool.replayed.records.items

-- the pool may be synced on a device of so many bytes: its blocks, its tree and its first log block lie in the area,
-- and no block is reserved or taken
pub record IsReadyFor (size : ℕ) (next : NextPool) : Type 0 where
  pub apart : AreApartIn size next.blocks.items
  pub placed : ∥ ArePlaced (block_count size) (pointers_of next.contents.tree) ∥₁
  pub log_placed : IsBlockAddress (block_count size) next.log_address
  pub sized : next.free.blocks ≡ block_count size
  pub idle : IsIdle next.free
