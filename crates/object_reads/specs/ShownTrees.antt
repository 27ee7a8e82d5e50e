-- The synced tree of a pool, as the changes of the unsynced groups show.
use Rattle.std.specs.Prelude.{ℕ, ◌≡◌, ◌<◌, ◌⊎◌, true, IfSome, IsTrue, List}
use Rattle.std.specs.Ordering.{nat_cmp}
use Rattle.std.specs.FinMap.{FinMap}
use Rattle.base.specs.declared.error.PoolError.{PoolError}
use Rattle.base.specs.declared.error.PoolError.TheVariants.{NoMemory, Read}
use Rattle.base.specs.disk.Disk.{bytes_of}
use Rattle.base.specs.formats.Fields.{pointer_in}
use Rattle.base.specs.formats.Limits.{pointer_count}
use Rattle.base.specs.tree.Places.{strip_number}
use Rattle.base.specs.tree.Places.Place.{Indirect, Data}
use Rattle.base.specs.kept.PlacedTrees.{HoldsTree}
use Rattle.device_model.specs.declared.device.SectorDevice.{Ghosts}
use Rattle.object_maps.specs.Cached.{IsReadRefusal}
use Rattle.tree_blocks.specs.TreeObjects.{objects_of}
use Rattle.tree_blocks.specs.Pointers.{pointers_of}
use Rattle.unsynced_extents.specs.Unsynced.{laid_all}
use Rattle.object_reads.specs.declared.pointer_blocks.PointerBlocks.{PointerBlocks}
use Rattle.object_reads.specs.declared.shown_tree.ShownTree.{ShownTree}

-- the objects of the synced tree
abbrev pub synced_objects : ShownTree → FinMap nat_cmp (List ℕ)
synced_objects t = objects_of t.tree.now

-- and with the changes of the unsynced groups laid over them
abbrev pub shown_objects : ShownTree → FinMap nat_cmp (List ℕ)
shown_objects t = laid_all t.changes.now (synced_objects t)

-- a device keeps the model, and its disk holds the synced tree
pub record StandsOn {Dev : Type 0} (D : Ghosts Dev) (device : Dev) (t : ShownTree) : Type 0 where
  pub keeps : IsTrue D.keeps_model
  pub tree : HoldsTree (bytes_of (D.disk device).now) t.frame (pointers_of t.tree.now) (synced_objects t)

-- a payload has the pointers to the records of strip m
abbrev pub ArePointersTo : ShownTree → ℕ → List ℕ → Type 0
ArePointersTo t m payload = (k : ℕ) → k < pointer_count → pointer_in payload k ≡ pointers_of t.tree.now (Data m k)

-- and one has those to the indirect blocks of the strips of object n
abbrev pub AreStripPointers : ShownTree → ℕ → List ℕ → Type 0
AreStripPointers t n payload = (j : ℕ) → j < pointer_count → pointer_in payload j ≡ pointers_of t.tree.now (Indirect (strip_number n j))

-- the blocks of object n that are read have the pointers below
pub record ArePointerBlocksOf (t : ShownTree) (n : ℕ) (blocks : PointerBlocks) : Type 0 where
  pub top : blocks.is_top_read ≡ true → AreStripPointers t n blocks.top
  pub strip : IfSome blocks.strip (λ j. ArePointersTo t (strip_number n j) blocks.indirect)

-- why a read of a range is refused: no memory is left for its bytes, or a block is refused
abbrev pub IsRangeRefusal : PoolError → Type 0
IsRangeRefusal e = (e ≡ NoMemory) ⊎ IsReadRefusal e

-- and where the device holds the tree
abbrev pub IsRangeRefusalOnTree : PoolError → Type 0
IsRangeRefusalOnTree e = (e ≡ NoMemory) ⊎ (e ≡ Read)
