-- What a view of a pool has: the objects of what the image mounts, and the tree that they are read from.
use Rattle.std.specs.Prelude.{ℕ, ◌≡◌, ◌≤◌, ◌⊎◌, ◌++◌, All, false, List}
use Rattle.std.specs.Ordering.{nat_cmp}
use Rattle.std.specs.FinMap.{FinMap}
use Rattle.base.specs.tree.Mount.{MountsTo}
use Rattle.base.specs.declared.error.PoolError.{PoolError}
use Rattle.base.specs.declared.error.PoolError.TheVariants.{BadRange, NoObject}
use Rattle.base.specs.declared.names.ObjectId.{ObjectId}
use Rattle.base.specs.declared.operation.Op.{Op}
use Rattle.base.specs.declared.range.Range.{Range}
use Rattle.base.specs.formats.Geometry.{block_address}
use Rattle.base.specs.history.Contents.{Contents}
use Rattle.base.specs.kept.PlacedTrees.{HoldsTree}
use Rattle.unsynced_extents.specs.declared.unsynced.UnsyncedExtents.{UnsyncedExtents}
use Rattle.extents.specs.Patches.{ArePatchesOf, no_patch}
use Rattle.unsynced_extents.specs.Unsynced.{changes_at, laid_all}
use Rattle.log_replay.specs.Replays.{ops_of_records}
use Rattle.tree_blocks.specs.TreeObjects.{objects_of}
use Rattle.contents.specs.Ops.{AreOpsAllowed}
use Rattle.tree_blocks.specs.Pointers.{pointers_of}
use Rattle.object_reads.specs.ShownTrees.{IsRangeRefusal}
use Rattle.mounted.specs.Ranges.{is_readable}
use Rattle.records.specs.declared.record.Record.{Record}
use Rattle.inspections.specs.declared.viewing.View.{View}

-- these operations are all that was changed, by one group
pub record AreAllChanges (ops : List Op) (e : UnsyncedExtents) : Type 0 where
  pub oldest : ArePatchesOf ops (changes_at e 0)
  pub second : (n : ℕ) → changes_at e 1 n ≡ no_patch
  pub third : (n : ℕ) → changes_at e 2 n ≡ no_patch

-- these records are left: the operations of those before them were added
pub record AreAdded (records left : List Record) (e : UnsyncedExtents) : Type 0 where
  pub done : List Record
  pub split : records ≡ done ++ left
  pub allowed : All (λ (r : Record). AreOpsAllowed r.ops) left
  pub changes : AreAllChanges (ops_of_records done) e

-- the objects that reads of a view have
abbrev pub objects_seen : View → FinMap nat_cmp (List ℕ)
objects_seen v = laid_all v.changes (objects_of v.synced.tree)

-- the blocks of the view's tree lie on a device of so many bytes
abbrev pub FitsOn : ℕ → View → Type 0
FitsOn size v = block_address v.frame.blocks ≤ size

-- The view has the objects of contents that the image mounts. The image holds the tree that they are read from.
pub record IsViewOfImage (image : List ℕ) (v : View) : Type 0 where
  pub contents : Contents
  pub mounts : MountsTo image contents
  pub objects : contents.objects ≡ objects_seen v
  pub tree : HoldsTree image v.frame (pointers_of v.synced.tree) (objects_of v.synced.tree)

-- a read of a range is refused: outside the limits, for no object, or as its blocks are
abbrev pub IsViewRefusal : ObjectId → Range → PoolError → Type 0
IsViewRefusal object range e = ((e ≡ BadRange) × (is_readable object.0 range ≡ false)) ⊎ ((e ≡ NoObject) ⊎ IsRangeRefusal e)
