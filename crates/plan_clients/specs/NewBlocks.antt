-- What a plan makes of one record, of one indirect block and of one top, and a block that comes back.
use Rattle.std.specs.Prelude.{ℕ, ◌≡◌, ◌≢◌, ◌<◌, List, Some, map, slice_get}
use Rattle.std.specs.Ordering.{nat_cmp}
use Rattle.std.specs.FinMap as finite
use Rattle.std.specs.FinMap.{FinMap}
use Rattle.base.specs.declared.names.ObjectId.{ObjectId}
use Rattle.base.specs.formats.Limits.{pointer_count}
use Rattle.base.specs.formats.Fields.{no_pointer, pointer_in}
use Rattle.base.specs.formats.Blocks.{IsBlock}
use Rattle.base.specs.tree.Places.{Place, strip_number}
use Rattle.base.specs.tree.Places.Place.{Top, Indirect, Data}
use Rattle.base.specs.kept.PlacedTrees.{IsLong, padded_record}
use Rattle.base.specs.kept.PlannedTrees.{NewBlock}
use Rattle.tree_plans.specs.declared.changes.ObjectChanges.{ObjectChanges}
use Rattle.tree_plans.specs.declared.planner.TreePlan.{TreePlan}
use Rattle.tree_plans.specs.declared.plan_source.PlanSource.{PlanSource}
use Rattle.tree_plans.specs.Changes.{AreBornBefore, AreChanges, AreTreePointers, IsCoveredBy}
use Rattle.tree_plans.specs.Plans.{IsAmong, new_block}
use Rattle.tree_plans.specs.Pointers.{entry_pointer_of, planned_pointers, pointers_before}

-- the changes say all that differs from objects before, and fit the objects after and the pointers of the tree
pub record IsScene (source : PlanSource) (after : FinMap nat_cmp (List ℕ)) (objects : List (ObjectId × ObjectChanges)) (before : FinMap nat_cmp (List ℕ)) : Type 0 where
  pub covered : IsCoveredBy objects (pointers_before source) before after
  pub changes : AreChanges objects after
  pub pointers : AreTreePointers objects (entry_pointer_of source.tree.now.entries.items) (pointers_before source) after

-- the plan has another block at this place than the tree
pub record IsNewPlace (source : PlanSource) (plan : TreePlan) (place : Place) : Type 0 where
  pub there : planned_pointers source plan place ≢ no_pointer
  pub other : planned_pointers source plan place ≢ pointers_before source place

-- one of the plan's blocks is of this pool and group, and has this kind, number and payload
pub record HasBlockOf (source : PlanSource) (plan : TreePlan) (kind number : ℕ) (payload : List ℕ) : Type 0 where
  pub index : ℕ
  pub block : NewBlock
  pub found : slice_get (map new_block plan.blocks.items) index ≡ Some block
  pub sealed : IsBlock block.content kind source.guid source.group.0 number payload

-- a new block at record 2 of object 7 has that record's bytes
abbrev pub HasNewRecord : PlanSource → FinMap nat_cmp (List ℕ) → List (ObjectId × ObjectChanges) → TreePlan → Type 0
HasNewRecord source after objects plan = (before : FinMap nat_cmp (List ℕ)) (bytes : List ℕ) → IsScene source after objects before
    → finite.get after 7 ≡ Some bytes → IsNewPlace source plan (Data 7 2) → HasBlockOf source plan 5 590 (padded_record 2 bytes)

-- a new indirect block of strip 7, the first one of object 7, has the pointers to its records
abbrev pub HasNewIndirect : PlanSource → FinMap nat_cmp (List ℕ) → List (ObjectId × ObjectChanges) → TreePlan → Type 0
HasNewIndirect source after objects plan = (before : FinMap nat_cmp (List ℕ)) → IsScene source after objects before
    → IsNewPlace source plan (Indirect 7)
    → (payload : List ℕ) × HasBlockOf source plan 4 7 payload × ((r : ℕ) → r < pointer_count → pointer_in payload r ≡ planned_pointers source plan (Data 7 r))

-- a new top of object 7, which is longer than one level holds, has the pointers to its indirect blocks
abbrev pub HasNewTop : PlanSource → FinMap nat_cmp (List ℕ) → List (ObjectId × ObjectChanges) → TreePlan → Type 0
HasNewTop source after objects plan = (before : FinMap nat_cmp (List ℕ)) → IsScene source after objects before → IsNewPlace source plan (Top 7)
    → IsLong (finite.get after 7) × (payload : List ℕ) × HasBlockOf source plan 7 7 payload
    × ((j : ℕ) → j < pointer_count → pointer_in payload j ≡ planned_pointers source plan (Indirect (strip_number 7 j)))

-- the block at 4,194,304 comes back
abbrev pub ReturnsBlock : PlanSource → FinMap nat_cmp (List ℕ) → List (ObjectId × ObjectChanges) → TreePlan → Type 0
ReturnsBlock source after objects plan = (before : FinMap nat_cmp (List ℕ)) → IsScene source after objects before
    → AreBornBefore source.group.0 (pointers_before source) → IsAmong plan.freed.items 4194304
