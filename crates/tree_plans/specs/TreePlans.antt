-- What a plan promises: the blocks that it takes, the tree that they make, and the blocks that come back.
use Rattle.std.specs.Prelude.{ℕ, ◌≡◌, ◌<◌, ◌⊎◌, [], true, false, nat_eq, List, All, length, map, slice_get, take, None, Some, is_some, option_map, if◌then◌else◌}
use Rattle.std.specs.BTreeMap.{BTreeMap}
use Rattle.std.specs.List.{IsDistinct}
use Rattle.std.specs.Ordering.{nat_cmp}
use Rattle.std.specs.FinMap as finite
use Rattle.std.specs.FinMap.{FinMap}
use Rattle.base.specs.declared.error.PoolError.{PoolError}
use Rattle.base.specs.declared.error.PoolError.TheVariants as error
use Rattle.base.specs.declared.names.ObjectId.{ObjectId}
use Rattle.base.specs.formats.Geometry.{IsBlockAddress, block_count, block_size}
use Rattle.base.specs.formats.Limits.{object_count}
use Rattle.base.specs.kept.Stored.{AreUsed}
use Rattle.base.specs.tree.Places.{Place}
use Rattle.base.specs.kept.PlacedTrees.{ArePlaced}
use Rattle.base.specs.kept.PlannedTrees.{AreFreed, IsTreePlan, NewBlock}
use Rattle.base.specs.tree.Syncs.{written_by}
use Rattle.base.specs.formats.Fields.{no_pointer}
use Rattle.base.specs.common.Rising.{rising}
use Rattle.tree_blocks.specs.TreeObjects.{lengths_of}
use Rattle.tree_blocks.specs.declared.tree.ObjectEntry.{ObjectEntry}
use Rattle.tree_plans.specs.declared.changes.ObjectChanges.{ObjectChanges}
use Rattle.tree_plans.specs.declared.planner.PlannedBlock.{PlannedBlock}
use Rattle.tree_plans.specs.declared.planner.TreePlan.{TreePlan}
use Rattle.tree_plans.specs.declared.plan_source.PlanSource.{PlanSource}
use Rattle.tree_plans.specs.Changes.{AreBornBefore, AreChanges, AreInRange, AreTreePointers, IsCoveredBy, written_frame}
use Rattle.tree_plans.specs.Parts.{group_in}
use Rattle.tree_plans.specs.Plans.{AreApart, address_of, new_block}
use Rattle.tree_plans.specs.Pointers.{entry_of, entry_pointer_of, planned_lengths, planned_pointers, pointers_before}
use Rattle.tree_plans.specs.Walks.{is_any_touched}

-- the places of a source that the sync of a group with these changes writes, in the order of a walk, if these are
-- the objects after it
abbrev pub places_written : PlanSource → FinMap nat_cmp (List ℕ) → List (ObjectId × ObjectChanges) → List Place
places_written source after objects = written_by (group_in source after objects)

-- the addresses of the free blocks of a source, rising
abbrev pub free_addresses : PlanSource → List ℕ
free_addresses source = rising source.free.now.free

-- the blocks of a plan are whole, and the lowest free ones: one for each place that is written, in the order of these
-- places
pub record TakesBlocks (source : PlanSource) (after : FinMap nat_cmp (List ℕ)) (objects : BTreeMap ObjectId ObjectChanges) (plan : TreePlan) : Type 0 where
  pub within : All (λ (b : PlannedBlock). b.index < block_count source.geometry) plan.blocks.items
  pub whole : (i : ℕ) (b : NewBlock) → slice_get (map new_block plan.blocks.items) i ≡ Some b → length b.content ≡ block_size
  pub taken : map address_of plan.blocks.items ≡ take (length plan.blocks.items) (free_addresses source)
  pub order : AreInRange objects.entries after → map address_of plan.blocks.items ≡ map (λ (place : Place). (planned_pointers source plan place).address) (places_written source after objects.entries)
  pub none : objects.entries ≡ [] → plan.blocks.items ≡ []

-- The tree after a plan: what becomes of each of its places, from any objects before it if the changes cover all that
-- differs. Each pointer is to a block of the area, if that held before, and each block of the plan has a pointer to it.
pub record GivesTree (source : PlanSource) (after : FinMap nat_cmp (List ℕ)) (objects : BTreeMap ObjectId ObjectChanges) (plan : TreePlan) : Type 0 where
  pub planned : (before : FinMap nat_cmp (List ℕ)) → IsCoveredBy objects.entries (pointers_before source) before after → AreChanges objects.entries after
      → AreTreePointers objects.entries (entry_pointer_of source.tree.now.entries.items) (pointers_before source) after
      → IsTreePlan (map new_block plan.blocks.items) (written_frame source.guid source.geometry source.group.0) (pointers_before source) (planned_pointers source plan) before after
  pub placed : ArePlaced (block_count source.geometry) (pointers_before source) → ArePlaced (block_count source.geometry) (planned_pointers source plan)
  pub used : AreUsed (map new_block plan.blocks.items) (planned_pointers source plan)
  pub kept_root : is_any_touched objects.entries ≡ false → plan.root ≡ source.tree.now.root
  pub new_root : is_any_touched objects.entries ≡ true → (plan.root.birth ≡ source.group.0) ⊎ (plan.root ≡ no_pointer)

-- the length of each object after a plan: the one after the group if an operation is on it, and otherwise the one
-- that the tree had
abbrev pub HasLengths : PlanSource → FinMap nat_cmp (List ℕ) → BTreeMap ObjectId ObjectChanges → TreePlan → Type 0
HasLengths source after objects plan = (n : ℕ) → n < object_count → planned_lengths source plan n
    ≡ (if is_some (entry_of objects.entries n) then option_map length (finite.get after n) else lengths_of source.tree.now n)

-- an entry of object n, which an operation is on: its length is the one after the group
pub record IsEntryAfter (after : FinMap nat_cmp (List ℕ)) (objects : List (ObjectId × ObjectChanges)) (n : ℕ) (e : ObjectEntry) : Type 0 where
  pub low : n < object_count
  pub touched : is_some (entry_of objects n) ≡ true
  pub size : e.length ≡ option_map length (finite.get after n)

-- a plan has such an entry for each object of the tree that an operation is on, and for no other
pub record HasEntries (after : FinMap nat_cmp (List ℕ)) (objects : BTreeMap ObjectId ObjectChanges) (plan : TreePlan) : Type 0 where
  pub each : (n : ℕ) (e : ObjectEntry) → entry_of plan.entries.entries n ≡ Some e → IsEntryAfter after objects.entries n e
  pub all : (n : ℕ) → n < object_count → entry_of plan.entries.entries n ≡ None → entry_of objects.entries n ≡ None

-- the blocks that come back are in the area, and are those that the plan replaces or clears, each once
pub record GivesBack (source : PlanSource) (plan : TreePlan) : Type 0 where
  pub returned : ArePlaced (block_count source.geometry) (pointers_before source) → All (λ address. IsBlockAddress (block_count source.geometry) address) plan.freed.items
  pub freed : AreBornBefore source.group.0 (pointers_before source) → AreFreed (pointers_before source) (planned_pointers source plan) plan.freed.items
  pub once : AreApart (pointers_before source) → IsDistinct nat_eq plan.freed.items

-- a plan that is refused for want of blocks, if the changes are in range: fewer blocks are free than there are places
-- to write
pub record TellsFull (source : PlanSource) (after : FinMap nat_cmp (List ℕ)) (objects : List (ObjectId × ObjectChanges)) (e : PoolError) : Type 0 where
  pub fewer : e ≡ error.NoSpace → AreInRange objects after → length (free_addresses source) < length (places_written source after objects)
