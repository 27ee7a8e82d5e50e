-- When the operations of a group take place, and what its plan comes to then.
use Rattle.std.specs.Prelude.{ℕ, ◌≡◌, ◌<◌, ◌≤◌, All, List, Ok, length, map, sum_by}
use Rattle.std.specs.Ordering.{nat_cmp}
use Rattle.std.specs.FinSet.{FinSet}
use Rattle.base.specs.common.Rising.{rising}
use Rattle.base.specs.declared.operation.Op.{Op}
use Rattle.base.specs.formats.Blocks.{Frame}
use Rattle.base.specs.history.Contents.{Contents}
use Rattle.base.specs.history.History.{apply_all}
use Rattle.base.specs.history.Plans.{estimate_of, shape_of}
use Rattle.base.specs.steps.Steps.{AreLengthsOf}
use Rattle.base.specs.kept.PlacedTrees.{HoldsTree}
use Rattle.base.specs.declared.pointer.Pointer.{Pointer}
use Rattle.base.specs.tree.Places.{Place}
use Rattle.base.specs.kept.PlannedTrees.{IsTreePlan}
use Rattle.contents.specs.declared.synced_tree.SyncedTree.{SyncedTree}
use Rattle.tree_blocks.specs.declared.tree.ObjectEntry.{ObjectEntry}
use Rattle.tree_blocks.specs.declared.tree.Tree.{Tree}
use Rattle.contents.specs.ContentsShown.{contents_of}
use Rattle.tree_blocks.specs.Lengths.{length_in}
use Rattle.contents.specs.Ops.{AreOpsAllowed}
use Rattle.tree_blocks.specs.Pointers.{pointers_of}
use Rattle.tree_blocks.specs.ListedObjects.{AreWithin}
use Rattle.extents.specs.declared.extents.Extents.{Extents}
use Rattle.extents.specs.Patches.{ArePatchesOf}
use Rattle.extents.specs.Tables.{patches_of}
use Rattle.records.specs.declared.record.Record.{Record}
use Rattle.tree_plans.specs.declared.planner.TreePlan.{TreePlan}
use Rattle.tree_plans.specs.Marks.{pending_ops}
use Rattle.tree_plans.specs.Plans.{new_block}
use Rattle.group_plans.specs.GroupPlans.{HoldsGroupObjects, IsShortOfBlocks, MakesReadTree, objects_with, plan_pointers}
use Rattle.group_plans.specs.Operations.{AreSized, TakesPlace}

-- allowed operations take place if they lead to some contents, and the maps have the lengths before them
abbrev pub AllowedOpsTakePlace : Type 0
AllowedOpsTakePlace = (ops : List Op) (maps : List ObjectEntry) (before after : Contents) → AreOpsAllowed ops → apply_all ops before ≡ Ok after → AreLengthsOf before (length_in maps)
    → TakesPlace ops maps before after

-- what they leave are the objects with their changes laid over them, and no object is too long
abbrev pub GroupsLeaveObjects : Type 0
GroupsLeaveObjects = (ops : List Op) (maps : List ObjectEntry) (extents : Extents) (synced : SyncedTree) (after : Contents) → ArePatchesOf ops (patches_of extents) → AreWithin (contents_of synced).objects
    → TakesPlace ops maps (contents_of synced) after → (after.objects ≡ objects_with extents synced.tree) × AreSized after.objects

-- if bytes hold the tree of the contents before the operations, the blocks of the plan make that of the contents after
abbrev pub PlansMakeTrees : Type 0
PlansMakeTrees = (frame before_frame : Frame) (tree : Tree) (records : List Record) (before after : Contents) (p : TreePlan) → HoldsGroupObjects frame tree records after.objects p
    → TakesPlace (pending_ops frame.group records) tree.entries.items before after → AreSized after.objects → (image : List ℕ) → HoldsTree image before_frame (pointers_of tree) before.objects
    → IsTreePlan (map new_block p.blocks.items) frame (pointers_of tree) (plan_pointers tree p) before.objects after.objects

-- the plan takes no more blocks than the operations are estimated at
abbrev pub PlansFitEstimates : Type 0
PlansFitEstimates = (frame : Frame) (tree : Tree) (records : List Record) (before after : Contents) (p : TreePlan) → MakesReadTree frame tree records after.objects p
    → TakesPlace (pending_ops frame.group records) tree.entries.items before after → AreSized after.objects → length p.blocks.items ≤ estimate_of (map shape_of (pending_ops frame.group records))

-- and if it is short of blocks, fewer are free than that
abbrev pub ShortPlansLackBlocks : Type 0
ShortPlansLackBlocks = (group : ℕ) (tree : Tree) (records : List Record) (old : Place → Pointer) (before after : Contents) (free : FinSet nat_cmp)
    → IsShortOfBlocks group records tree.entries.items old after.objects (rising free)
    → TakesPlace (pending_ops group records) tree.entries.items before after → AreSized after.objects → length (rising free) < estimate_of (map shape_of (pending_ops group records))

-- if all records are of one group, its operations are estimated at the sum of what theirs are
abbrev pub EstimatesAdd : Type 0
EstimatesAdd = (group : ℕ) (records : List Record) → All (λ (r : Record). r.group.0 ≡ group) records
    → estimate_of (map shape_of (pending_ops group records)) ≡ sum_by (λ (r : Record). estimate_of (map shape_of r.ops)) records
