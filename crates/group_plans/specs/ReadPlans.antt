-- The plan of a group whose changes are known, and whose old maps were read.
use Rattle.std.specs.Prelude.{ℕ, ◌≡◌, ◌<◌, List, [], Some, is_some, length, map, nat_eq, option_map, slice_get, if◌then◌else◌}
use Rattle.std.specs.List.{IsDistinct}
use Rattle.std.specs.Ordering.{nat_cmp}
use Rattle.std.specs.FinMap as finite
use Rattle.std.specs.FinMap.{FinMap}
use Rattle.std.specs.FinSet.{FinSet}
use Rattle.base.specs.common.Rising.{rising}
use Rattle.base.specs.declared.error.PoolError.{PoolError}
use Rattle.base.specs.declared.error.PoolError.TheVariants.{NoSpace}
use Rattle.base.specs.declared.names.ObjectId.{ObjectId}
use Rattle.base.specs.declared.pointer.Pointer.{Pointer}
use Rattle.base.specs.formats.Blocks.{Frame}
use Rattle.base.specs.formats.Geometry.{block_size}
use Rattle.base.specs.formats.Limits.{object_count}
use Rattle.base.specs.kept.Stored.{AreUsed}
use Rattle.base.specs.kept.PlacedTrees.{ArePlaced}
use Rattle.base.specs.tree.Places.{Place}
use Rattle.base.specs.kept.PlannedTrees.{AreFreed, IsTreePlan, NewBlock}
use Rattle.base.specs.tree.Syncs.{written_by}
use Rattle.tree_blocks.specs.declared.tree.Tree.{Tree}
use Rattle.tree_blocks.specs.Lengths.{length_in}
use Rattle.tree_blocks.specs.Pointers.{pointers_of}
use Rattle.tree_plans.specs.declared.changes.ObjectChanges.{ObjectChanges}
use Rattle.tree_plans.specs.declared.planner.TreePlan.{TreePlan}
use Rattle.tree_plans.specs.Changes.{AreBornBefore, AreChanges, AreInRange, AreTreePointers, IsCoveredBy, changes_of_group}
use Rattle.tree_plans.specs.Plans.{AreApart, new_block}
use Rattle.tree_plans.specs.Pointers.{entry_of, entry_pointer_of}
use Rattle.group_plans.specs.GroupPlans.{KeepsUpperTree, MakesTreeAsRead, plan_pointers}
use Rattle.tree_blocks.specs.SyncedTrees.{lengths_after}

-- What a plan makes of a tree, whose pointers before are these, by these changes: what `MakesGroupTree` says of the
-- changes of a group.
pub record PlansReadTree (frame : Frame) (old : Place → Pointer) (tree : Tree) (objects : List (ObjectId × ObjectChanges)) (after : FinMap nat_cmp (List ℕ)) (p : TreePlan) : Type 0 where
  pub placed : ∥ ArePlaced frame.blocks (plan_pointers tree p) ∥₁
  pub order : AreInRange objects after
      → map (λ (b : NewBlock). b.address) (map new_block p.blocks.items) ≡ map (λ (place : Place). (plan_pointers tree p place).address) (written_by (changes_of_group objects old after))
  pub used : AreUsed (map new_block p.blocks.items) (plan_pointers tree p)
  pub freed : AreBornBefore frame.group old → AreFreed old (plan_pointers tree p) p.freed.items
  pub once : AreApart old → IsDistinct nat_eq p.freed.items
  pub none : objects ≡ [] → map new_block p.blocks.items ≡ []
  pub whole : (i : ℕ) (b : NewBlock) → slice_get (map new_block p.blocks.items) i ≡ Some b → length b.content ≡ block_size
  pub lengths : (n : ℕ) → n < object_count → lengths_after p.entries tree n ≡ (if is_some (entry_of objects n) then option_map length (finite.get after n) else length_in tree.entries.items n)
  pub upper : KeepsUpperTree objects old tree p
  pub read : MakesTreeAsRead objects tree.entries.items frame old (plan_pointers tree p) (map new_block p.blocks.items) after

-- the pointers before are the tree's, and the blocks hold these objects
pub record HoldsPlanned (frame : Frame) (tree : Tree) (objects : List (ObjectId × ObjectChanges)) (after : FinMap nat_cmp (List ℕ)) (p : TreePlan) : Type 0 where
  pub made : PlansReadTree frame (pointers_of tree) tree objects after p
  pub planned : (before : FinMap nat_cmp (List ℕ)) → IsCoveredBy objects (pointers_of tree) before after → AreChanges objects after → AreTreePointers objects (entry_pointer_of tree.entries.items) (pointers_of tree) after
      → IsTreePlan (map new_block p.blocks.items) frame (pointers_of tree) (plan_pointers tree p) before after

-- refused NoSpace, the free blocks are too few for these changes of these old pointers
abbrev pub IsShortFrom : (Place → Pointer) → List (ObjectId × ObjectChanges) → FinMap nat_cmp (List ℕ) → FinSet nat_cmp → PoolError → Type 0
IsShortFrom old objects after free e = e ≡ NoSpace → AreInRange objects after → length (rising free) < length (written_by (changes_of_group objects old after))

-- and so of some old pointers
abbrev pub IsShortFor : List (ObjectId × ObjectChanges) → FinMap nat_cmp (List ℕ) → FinSet nat_cmp → PoolError → Type 0
IsShortFor objects after free e = e ≡ NoSpace → (old : Place → Pointer) × (AreInRange objects after → length (rising free) < length (written_by (changes_of_group objects old after)))
