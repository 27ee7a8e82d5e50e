-- What the plan of a group says of its blocks and of the tree that they make.
use Rattle.std.specs.Prelude.{ℕ, ◌≡◌, ◌<◌, ◌⊎◌, All, List, [], Option, Some, false, is_some, length, map, nat_eq, option_map, slice_get, take, if◌then◌else◌}
use Rattle.std.specs.List.{IsDistinct}
use Rattle.std.specs.Ordering.{nat_cmp}
use Rattle.std.specs.FinMap as finite
use Rattle.std.specs.FinMap.{FinMap}
use Rattle.std.specs.FinSet.{FinSet}
use Rattle.base.specs.common.Rising.{rising}
use Rattle.base.specs.declared.error.PoolError.{PoolError}
use Rattle.base.specs.declared.error.PoolError.TheVariants.{NoSpace, Read}
use Rattle.base.specs.declared.names.ObjectId.{ObjectId}
use Rattle.base.specs.declared.pointer.Pointer.{Pointer}
use Rattle.base.specs.formats.Blocks.{Frame}
use Rattle.base.specs.formats.Geometry.{AreBlocksOf, block_count, block_size}
use Rattle.base.specs.formats.Limits.{object_count}
use Rattle.base.specs.kept.Stored.{AreUsed}
use Rattle.base.specs.kept.PlacedTrees.{ArePlaced}
use Rattle.base.specs.tree.Places.{Place}
use Rattle.base.specs.tree.Places.Place.{Root, Directory}
use Rattle.base.specs.kept.PlannedTrees.{AreFreed, IsTreePlan, NewBlock}
use Rattle.base.specs.tree.Syncs.{written_by}
use Rattle.records.specs.declared.record.Record.{Record}
use Rattle.tree_blocks.specs.declared.tree.ObjectEntry.{ObjectEntry}
use Rattle.tree_blocks.specs.declared.tree.Tree.{Tree}
use Rattle.object_maps.specs.Cached.{IsReadRefusal}
use Rattle.tree_blocks.specs.TreeObjects.{objects_of}
use Rattle.tree_blocks.specs.Sources.{object_length}
use Rattle.tree_blocks.specs.Lengths.{length_in}
use Rattle.tree_blocks.specs.Pointers.{pointers_of}
use Rattle.extents.specs.declared.extents.Extents.{Extents}
use Rattle.extents.specs.Patches.{laid_over}
use Rattle.extents.specs.Tables.{patches_of}
use Rattle.tree_plans.specs.declared.changes.ObjectChanges.{ObjectChanges}
use Rattle.tree_plans.specs.declared.planner.PlannedBlock.{PlannedBlock}
use Rattle.tree_plans.specs.declared.planner.TreePlan.{TreePlan}
use Rattle.group_plans.specs.declared.planning.GroupSource.{GroupSource}
use Rattle.tree_plans.specs.Changes.{AreBornBefore, AreChanges, AreInRange, AreTreePointers, IsCoveredBy, changes_of_group, written_frame}
use Rattle.tree_plans.specs.Marks.{AreChangesOf, pending_ops}
use Rattle.tree_plans.specs.Plans.{AreApart, IsWant, address_of, new_block}
use Rattle.tree_plans.specs.Pointers.{entry_of, entry_pointer_of}
use Rattle.tree_plans.specs.Walks.{is_any_touched}
use Rattle.tree_blocks.specs.SyncedTrees.{lengths_after, pointers_after}

-- Some changes are those of the group's operations among records, on a tree with these entries. By them these blocks
-- make the tree after the group from the old one, whatever objects were there before of which the changes cover all
-- that differs.
pub record IsPlannedGroup (group : ℕ) (records : List Record) (entries : List ObjectEntry) (frame : Frame) (old new : Place → Pointer) (bs : List NewBlock) (after : FinMap nat_cmp (List ℕ)) : Type 0 where
  pub objects : List (ObjectId × ObjectChanges)
  pub changes : AreChangesOf (pending_ops group records) entries objects
  pub planned : (before : FinMap nat_cmp (List ℕ)) → IsCoveredBy objects old before after → AreChanges objects after → AreTreePointers objects (entry_pointer_of entries) old after
      → IsTreePlan bs frame old new before after

-- Some changes are those of the group's operations among records, on a tree with these entries. If they are in range,
-- the blocks are those of the places that they write, one for each, in their order. Each one is used. If no old
-- pointer was born in the group or later, what comes back is what the old pointers have and the new ones have not: each
-- once, if no two old places had blocks at one address. Without an operation on an object nothing is written.
pub record TakesGroupPlaces (group : ℕ) (records : List Record) (entries : List ObjectEntry) (old new : Place → Pointer) (bs : List NewBlock) (returned : List ℕ) (after : FinMap nat_cmp (List ℕ)) : Type 0 where
  pub objects : List (ObjectId × ObjectChanges)
  pub changes : AreChangesOf (pending_ops group records) entries objects
  pub order : AreInRange objects after
      → map (λ (b : NewBlock). b.address) bs ≡ map (λ (place : Place). (new place).address) (written_by (changes_of_group objects old after))
  pub used : AreUsed bs new
  pub freed : AreBornBefore group old → AreFreed old new returned
  pub once : AreApart old → IsDistinct nat_eq returned
  pub none : objects ≡ [] → bs ≡ []

-- By these changes the blocks make the tree after a group from the old one, for objects as long as these are. They are
-- these, if each record that was read is the tree's.
pub record MakesTreeAsRead (objects : List (ObjectId × ObjectChanges)) (entries : List ObjectEntry) (frame : Frame) (old new : Place → Pointer) (bs : List NewBlock) (after : FinMap nat_cmp (List ℕ)) : Type 0 where
  pub held : FinMap nat_cmp (List ℕ)
  pub as_long : (n : ℕ) → object_length held n ≡ object_length after n
  pub planned : (before : FinMap nat_cmp (List ℕ)) → IsCoveredBy objects old before held → AreChanges objects held → AreTreePointers objects (entry_pointer_of entries) old held
      → IsTreePlan bs frame old new before held

-- The pointers before are the tree's at its root and its directories. A plan of these changes leaves the root, if none
-- of them is on an object, and has entries only of objects that a tree may have.
pub record KeepsUpperTree (objects : List (ObjectId × ObjectChanges)) (old : Place → Pointer) (tree : Tree) (p : TreePlan) : Type 0 where
  pub root : old Root ≡ tree.root
  pub directories : (d : ℕ) → old (Directory d) ≡ pointers_of tree (Directory d)
  pub kept_root : is_any_touched objects ≡ false → p.root ≡ tree.root
  pub entries : (n : ℕ) (e : ObjectEntry) → entry_of p.entries.entries n ≡ Some e → n < object_count

-- Some changes are those of the group's operations among records, on a tree with these entries. Where they are in
-- range, fewer of these blocks are free than there are places that are written.
pub record IsShortOfBlocks (group : ℕ) (records : List Record) (entries : List ObjectEntry) (old : Place → Pointer) (after : FinMap nat_cmp (List ℕ)) (free : List ℕ) : Type 0 where
  pub objects : List (ObjectId × ObjectChanges)
  pub changes : AreChangesOf (pending_ops group records) entries objects
  pub fewer : AreInRange objects after → length free < length (written_by (changes_of_group objects old after))

-- Some changes are those of the group's operations among records, on a tree with these entries. An object that an
-- operation is on has the length that it has among these objects, and any other the one that the tree has.
pub record HasGroupLengths (group : ℕ) (records : List Record) (entries : List ObjectEntry) (new : ℕ → Option ℕ) (after : FinMap nat_cmp (List ℕ)) : Type 0 where
  pub objects : List (ObjectId × ObjectChanges)
  pub changes : AreChangesOf (pending_ops group records) entries objects
  pub each : (n : ℕ) → n < object_count → new n ≡ (if is_some (entry_of objects n) then option_map length (finite.get after n) else length_in entries n)

-- the pointers of the tree that a plan makes of another
abbrev pub plan_pointers : Tree → TreePlan → Place → Pointer
plan_pointers tree p = pointers_after p.root p.directories.items p.entries tree

-- what a plan writes and what comes back are blocks of a device of this size
pub record FitsIn (size : ℕ) (p : TreePlan) : Type 0 where
  pub within : All (λ (b : PlannedBlock). b.index < block_count size) p.blocks.items
  pub freed : AreBlocksOf (block_count size) p.freed.items

-- it takes the lowest of these free blocks, in their order
abbrev pub TakesLowest : FinSet nat_cmp → TreePlan → Type 0
TakesLowest free p = map address_of p.blocks.items ≡ take (length p.blocks.items) (rising free)

-- It makes of a tree, whose pointers before are these, one of the group of the frame, whose operations are among these
-- records and lead to these objects. Its pointers are placed, and its blocks are whole and lie at the places that the
-- operations write. Its lengths are those after the group, and its blocks hold the records as they were read.
pub record MakesGroupTree (frame : Frame) (old : Place → Pointer) (tree : Tree) (records : List Record) (after : FinMap nat_cmp (List ℕ)) (p : TreePlan) : Type 0 where
  pub placed : ∥ ArePlaced frame.blocks (plan_pointers tree p) ∥₁
  pub places : TakesGroupPlaces frame.group records tree.entries.items old (plan_pointers tree p) (map new_block p.blocks.items) p.freed.items after
  pub whole : (i : ℕ) (b : NewBlock) → slice_get (map new_block p.blocks.items) i ≡ Some b → length b.content ≡ block_size
  pub lengths : HasGroupLengths frame.group records tree.entries.items (lengths_after p.entries tree) after
  pub upper : KeepsUpperTree places.objects old tree p
  pub read : MakesTreeAsRead places.objects tree.entries.items frame old (plan_pointers tree p) (map new_block p.blocks.items) after

-- And so whichever pointers were read: the tree has told ones, which a device that doesn't hold it need not give.
abbrev pub MakesReadTree : Frame → Tree → List Record → FinMap nat_cmp (List ℕ) → TreePlan → Type 0
MakesReadTree frame tree records after p = (old : Place → Pointer) × MakesGroupTree frame old tree records after p

-- Its pointers before are those that the tree has, and its blocks hold these objects.
pub record HoldsGroupObjects (frame : Frame) (tree : Tree) (records : List Record) (after : FinMap nat_cmp (List ℕ)) (p : TreePlan) : Type 0 where
  pub made : MakesGroupTree frame (pointers_of tree) tree records after p
  pub held : IsPlannedGroup frame.group records tree.entries.items frame (pointers_of tree) (plan_pointers tree p) (map new_block p.blocks.items) after

-- refused NoSpace, the free blocks are too few for the tree of the group, whichever pointers were read
abbrev pub IsRefusedShort : ℕ → Tree → List Record → FinMap nat_cmp (List ℕ) → FinSet nat_cmp → PoolError → Type 0
IsRefusedShort group tree records after free e = e ≡ NoSpace → (old : Place → Pointer) × IsShortOfBlocks group records tree.entries.items old after (rising free)

-- and of the pointers that the tree has
abbrev pub IsTreeShort : ℕ → Tree → List Record → FinMap nat_cmp (List ℕ) → FinSet nat_cmp → PoolError → Type 0
IsTreeShort group tree records after free e = e ≡ NoSpace → IsShortOfBlocks group records tree.entries.items (pointers_of tree) after (rising free)

-- why a plan of a group is refused: it wants memory or blocks, or a read of a block was refused
abbrev pub IsPlanRefusal : PoolError → Type 0
IsPlanRefusal e = IsWant e ⊎ IsReadRefusal e

-- and so on a device that holds the tree
abbrev pub IsHeldRefusal : PoolError → Type 0
IsHeldRefusal e = IsWant e ⊎ (e ≡ Read)

-- the frame of the blocks that a source is planned for
abbrev pub frame_planned : GroupSource → Frame
frame_planned source = written_frame source.guid source.geometry source.group.0

-- the objects that a tree has with the changes of a group laid over them
abbrev pub objects_with : Extents → Tree → FinMap nat_cmp (List ℕ)
objects_with extents tree = laid_over (patches_of extents) (objects_of tree)
