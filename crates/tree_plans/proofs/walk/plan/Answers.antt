use Rattle.std.proofs.Common.{◌≡◌, ◌⊎◌, List, ap, refl, map, subst, ◌∙◌, arith}
use Rattle.std.specs.Prelude.{All}
use Rattle.base.specs.formats.Geometry.{IsBlockAddress}
use Rattle.base.specs.formats.Blocks.{Frame}
use Rattle.base.specs.kept.PlacedTrees.{ArePlaced}
use Rattle.base.specs.kept.PlannedTrees.{AreFreed, IsTreePlan}
use Rattle.tree_plans.specs.Changes.{AreBornBefore}
use Rattle.base.specs.declared.pointer.Pointer.{Pointer}
use Rattle.base.specs.tree.Places.{Place}
use Rattle.tree_plans.specs.declared.planner.PlannedBlock.{PlannedBlock}
use Rattle.tree_blocks.specs.Pointers.{pointers_by}
use Rattle.tree_plans.specs.declared.planner.Planner.{Planner}
use Rattle.base.specs.formats.Fields.{no_pointer}
use Rattle.tree_plans.specs.Parts.{group_in}
use Rattle.tree_plans.specs.Plans.{new_block, progress_of}
use Rattle.tree_plans.specs.Pointers.{old_pointers, old_tree, planned_map}
use Rattle.tree_plans.proofs.Planned.{all_freed, freed_in_area, length_planned, entry_made, not_touched, root_cases, taken_lowest, tree_placed, tree_planned}
use Rattle.tree_plans.proofs.Uses.{all_whole}
use Rattle.tree_plans.proofs.Order.{planned_in_order}
use Rattle.tree_plans.proofs.Room.{handed_on, plan_lacks}
use Rattle.tree_plans.proofs.walk.plan.Goals as goal

pub returns-clause-taken : goal.returns-clause-taken
returns-clause-taken g c =
    let all = c.place_tree.new.planner.blocks.items in
    record {
      within = rw (c.in_ok-tree.ensures.geometry) at c.place_tree.new.planner.placed;
      whole = all_whole all c.place_tree.new.planner.whole;
      taken = taken_lowest _ _ all _ _ _ refl (ap (λ (l : List PlannedBlock). map new_block l) c.new.ensures.items) c.in_ok-tree.ensures.planned.goes;
      order = λ within. planned_in_order all _ (group_in c.args.source.now (g.O.ObjectSource.objects c.args.after.now) c.args.objects.now.entries) (c.in_ok-tree.ensures.planned.order within);
      none = λ no_objects. ap (λ (p : Planner). p.blocks.items) (c.in_ok-tree.ensures.kept no_objects) ∙ c.new.ensures.items;
    }

pub returns-clause-tree : goal.returns-clause-tree
returns-clause-tree g c =
    let s = progress_of c.place_tree.new.planner in
    let t = old_tree c.args.source.now in
    let after = (g.O.ObjectSource.objects c.args.after.now) in
    let objects = c.args.objects.now.entries in
    let tree = c.in_ok-tree.tree in
    let told = c.in_ok-tree.ensures.planned in
    let new : Place → Pointer = pointers_by tree.root tree.directories.items (planned_map t.maps tree.entries.entries) in
    let cases = root_cases s t after objects tree.entries.entries tree.directories.items tree.root told.walked in
    record {
      planned = λ before covered changes whole.
          subst (λ (f : Frame). IsTreePlan s.blocks f (old_pointers t) new before after) told.goes.frame
          (tree_planned s t after objects tree.entries.entries tree.directories.items tree.root told.walked (omega arith) before covered changes whole);
      placed = subst (λ (f : Frame). ArePlaced f.blocks (old_pointers t) → ArePlaced f.blocks new) told.goes.frame
          (tree_placed s t after objects tree.entries.entries tree.directories.items tree.root told.walked);
      used = told.used;
      kept_root = cases.0;
      new_root = λ any. subst (λ (f : Frame). (tree.root.birth ≡ f.group) ⊎ (tree.root ≡ no_pointer)) told.goes.frame (cases.1 any);
    }

pub returns-clause-lengths : goal.returns-clause-lengths
returns-clause-lengths g c =
    length_planned (progress_of c.place_tree.new.planner) (old_tree c.args.source.now) (g.O.ObjectSource.objects c.args.after.now) c.args.objects.now.entries
    c.in_ok-tree.tree.entries.entries c.in_ok-tree.tree.directories.items c.in_ok-tree.tree.root c.in_ok-tree.ensures.planned.walked

pub returns-clause-entries : goal.returns-clause-entries
returns-clause-entries g c =
    let s = progress_of c.place_tree.new.planner in
    let t = old_tree c.args.source.now in
    let after = (g.O.ObjectSource.objects c.args.after.now) in
    let objects = c.args.objects.now.entries in
    let tree = c.in_ok-tree.tree in
    let told = c.in_ok-tree.ensures.planned in
    record {
      each = entry_made s t after objects tree.entries.entries tree.directories.items tree.root told.walked;
      all = not_touched s t after objects tree.entries.entries tree.directories.items tree.root told.walked;
    }

pub returns-clause-freed : goal.returns-clause-freed
returns-clause-freed g c =
    let s = progress_of c.place_tree.new.planner in
    let t = old_tree c.args.source.now in
    let after = (g.O.ObjectSource.objects c.args.after.now) in
    let objects = c.args.objects.now.entries in
    let tree = c.in_ok-tree.tree in
    let told = c.in_ok-tree.ensures.planned in
    let new : Place → Pointer = pointers_by tree.root tree.directories.items (planned_map t.maps tree.entries.entries) in
    record {
      returned = subst (λ (f : Frame). ArePlaced f.blocks (old_pointers t) → All (λ address. IsBlockAddress f.blocks address) s.freed) told.goes.frame
          (freed_in_area s t after objects tree.entries.entries tree.directories.items tree.root told.walked);
      freed = subst (λ (f : Frame). AreBornBefore f.group (old_pointers t) → AreFreed (old_pointers t) new s.freed) told.goes.frame
          (all_freed s t after objects tree.entries.entries tree.directories.items tree.root told.walked);
      once = told.once;
    }

pub returns-in_err-tree-clause-full : goal.returns-in_err-tree-clause-full
returns-in_err-tree-clause-full g c =
    handed_on c.from_residual.result _ _ c.from_residual.ensures.1 (record { fewer = λ no_space within. plan_lacks _ 0 _ (group_in c.args.source.now (g.O.ObjectSource.objects c.args.after.now) c.args.objects.now.entries) refl (ap (λ (l : List PlannedBlock). map new_block l) c.new.ensures.items) (c.in_err-tree.ensures.full within no_space) })
