use Rattle.std.proofs.Common.{◌≡◌, ℕ, List, Option, subst, sym, ◌∙◌}
use Rattle.std.specs.Prelude.{IfErr, IfOk}
use Rattle.std.specs.Ordering.{nat_cmp}
use Rattle.std.specs.FinMap.{FinMap}
use Rattle.std.proofs.Math.Logic.{∥∥₁_map}
use Rattle.std.proofs.lemmas.Result.{IfErr-weaker, IfOk-weaker, err_from_is_err_and}
use Rattle.base.specs.declared.names.ObjectId.{ObjectId}
use Rattle.base.specs.disk.Disk.{bytes_of}
use Rattle.base.specs.formats.Geometry.{block_count}
use Rattle.base.specs.kept.PlacedTrees.{ArePlaced}
use Rattle.base.proofs.tree.SamePlaces.{holds_as}
use Rattle.extents.specs.declared.extents.Extents.{Extents}
use Rattle.tree_blocks.specs.TreeObjects.{objects_of}
use Rattle.tree_blocks.specs.declared.tree.Tree.{Tree}
use Rattle.tree_blocks.specs.Pointers.{pointers_of}
use Rattle.tree_plans.specs.declared.changes.ObjectChanges.{ObjectChanges}
use Rattle.tree_plans.specs.declared.planner.TreePlan.{TreePlan}
use Rattle.tree_plans.specs.Parts.{AreMapsRead}
use Rattle.tree_plans.specs.Pointers.{pointers_before}
use Rattle.tree_plans.specs.TreePlans.{GivesBack, GivesTree, HasEntries, HasLengths, TakesBlocks, TellsFull}
use Rattle.group_plans.specs.GroupPlans.{objects_with}
use Rattle.group_plans.specs.Prepared.{at_hand, with_records}
use Rattle.group_plans.proofs.PlannedBlocks.{are_blocks}
use Rattle.group_plans.proofs.PlannedPointers.{before_placed, same_before}
use Rattle.group_plans.proofs.PreparedPlans.{held_prepare, held_want, maps_as, of_prepare, of_want, prepared_exact, prepared_length, want_counts}
use Rattle.group_plans.proofs.ReadPlans.{IfOk_both, IfOk_five, holds_planned, not_short, not_short_from, plans_tree, short_of, short_of_tree}
use Rattle.group_plans.proofs.planning.plan_read.Goals as goal

-- what is told of the objects with records at hand, told of the same changes and tree as before
moved : (P : FinMap nat_cmp (List ℕ) → Type 0) (records : ℕ → ℕ → Option (List ℕ)) (x y : Extents) (a b : Tree) → x ≡ y → a ≡ b → P (with_records records (objects_with x a)) → P (with_records records (objects_with y b))
moved P records x y a b same_changes same_tree told =
    subst (λ (x : Extents). P (with_records records (objects_with x b))) same_changes (subst (λ (a : Tree). P (with_records records (objects_with x a))) same_tree told)

pub returns-in_err-after-clause-refused : goal.returns-in_err-after-clause-refused
returns-in_err-after-clause-refused g c =
    let p = err_from_is_err_and c.from_residual.result c.from_residual.ensures.1 in
    rw (p.1, p.2) (of_prepare _ c.in_err-after.ensures.refused)

pub returns-in_err-after-clause-sound : goal.returns-in_err-after-clause-sound
returns-in_err-after-clause-sound g c = λ keeps held exact.
    let source = c.args.read.now in
    let below = (objects_of c.args.read.now.tree.now) in
    let old = same_before source c.args.objects.now.entries c.requires.none (block_count source.geometry) below c.requires.old exact in
    let p = err_from_is_err_and c.from_residual.result c.from_residual.ensures.1 in
    rw (p.1, p.2) (held_prepare _ (c.in_err-after.ensures.sound keeps
    (holds_as (bytes_of (g.B.SectorDevice.disk c.args.reader.now).now) c.args.before.now (pointers_of source.tree.now) (pointers_before source) old below held)))

pub returns-in_err-after-clause-no_space : goal.returns-in_err-after-clause-no_space
returns-in_err-after-clause-no_space g c =
    let p = err_from_is_err_and c.from_residual.result c.from_residual.ensures.1 in
    not_short c.args.objects.now.entries (objects_with c.args.extents.now c.args.read.now.tree.now) c.args.read.now.free.now.free c.from_residual.result p.0 c.in_err-after.field-0.0 p.1 p.2 c.in_err-after.ensures.refused

pub returns-in_err-after-clause-short : goal.returns-in_err-after-clause-short
returns-in_err-after-clause-short g c = λ keeps held exact.
    let source = c.args.read.now in
    let p = err_from_is_err_and c.from_residual.result c.from_residual.ensures.1 in
    not_short_from (pointers_of source.tree.now) c.args.objects.now.entries (objects_with c.args.extents.now c.args.read.now.tree.now) source.free.now.free c.from_residual.result p.0 c.in_err-after.field-0.0 p.1 p.2
    c.in_err-after.ensures.refused

pub returns-clause-reads : goal.returns-clause-reads
returns-clause-reads g c =
    let reads = c.in_ok-after.ensures.reads in
    record { size = reads.size; disk = reads.disk; count = reads.count ∙ sym (want_counts c.plan_sealed.result c.plan_sealed.ensures.refused _) }

pub returns-clause-fits : goal.returns-clause-fits
returns-clause-fits g c =
    let source = c.args.read.now in
    let blocks : ℕ = block_count source.geometry in
    let placed : ∥ ArePlaced blocks (pointers_before source) ∥₁ =
    ∥∥₁_map {A = ArePlaced blocks (pointers_of source.tree.now)} {B = ArePlaced blocks (pointers_before source)} c.requires.placed
    (before_placed source c.args.objects.now.entries c.requires.none blocks (objects_of c.args.read.now.tree.now) c.requires.old) in
    IfOk_both c.plan_sealed.result
    (λ (p : TreePlan) taken (back : GivesBack source p). record { within = taken.within; freed = are_blocks blocks (ArePlaced blocks (pointers_before source)) p.freed.items placed back.returned })
    c.plan_sealed.ensures.taken c.plan_sealed.ensures.freed

pub returns-clause-taken : goal.returns-clause-taken
returns-clause-taken g c = IfOk-weaker c.plan_sealed.result _ _ (λ (p : TreePlan) told. told.taken) c.plan_sealed.ensures.taken

-- the maps were read for the objects with records at hand as well
pub plan_sealed-requires-clause-maps : goal.plan_sealed-requires-clause-maps
plan_sealed-requires-clause-maps g c =
    let of = c.in_ok-after.ensures in
    let hand : ℕ → ℕ → Option (List ℕ) = at_hand c.in_ok-after.after.records in
    moved (λ (o : FinMap nat_cmp (List ℕ)). AreMapsRead c.args.read.now o c.args.objects.now.entries) hand _ _ _ _ (sym of.extents) (sym of.below)
    (maps_as c.args.read.now c.args.objects.now.entries (with_records hand (objects_with c.args.extents.now c.args.read.now.tree.now)) (objects_with c.args.extents.now c.args.read.now.tree.now)
    (prepared_length hand c.args.extents.now c.args.read.now.tree.now) c.requires.maps)

pub returns-clause-tree : goal.returns-clause-tree
returns-clause-tree g c =
    let source = c.args.read.now in
    let objects = c.args.objects.now in
    let extents : Extents = c.args.extents.now in
    let tree : Tree = c.args.read.now.tree.now in
    let hand : ℕ → ℕ → Option (List ℕ) = at_hand c.in_ok-after.after.records in
    let of = c.in_ok-after.ensures in
    IfOk_five c.plan_sealed.result (λ (p : TreePlan) taken made lengths entries back. (
      pointers_before source,
      plans_tree source objects c.requires.none (objects_of tree) c.requires.old c.requires.placed p (with_records hand (objects_with extents tree)) (objects_with extents tree)
          (prepared_length hand extents tree) taken made lengths entries back,
    )) (moved (λ (o : FinMap nat_cmp (List ℕ)). IfOk c.plan_sealed.result (TakesBlocks source o objects)) hand _ _ _ _ of.extents of.below c.plan_sealed.ensures.taken)
    (moved (λ (o : FinMap nat_cmp (List ℕ)). IfOk c.plan_sealed.result (GivesTree source o objects)) hand _ _ _ _ of.extents of.below c.plan_sealed.ensures.tree)
    (moved (λ (o : FinMap nat_cmp (List ℕ)). IfOk c.plan_sealed.result (HasLengths source o objects)) hand _ _ _ _ of.extents of.below c.plan_sealed.ensures.lengths)
    (moved (λ (o : FinMap nat_cmp (List ℕ)). IfOk c.plan_sealed.result (HasEntries o objects)) hand _ _ _ _ of.extents of.below c.plan_sealed.ensures.entries)
    c.plan_sealed.ensures.freed

pub returns-clause-objects : goal.returns-clause-objects
returns-clause-objects g c = λ keeps held exact.
    let source = c.args.read.now in
    let objects = c.args.objects.now in
    let extents : Extents = c.args.extents.now in
    let tree : Tree = c.args.read.now.tree.now in
    let below = (objects_of tree) in
    let hand : ℕ → ℕ → Option (List ℕ) = at_hand c.in_ok-after.after.records in
    let wanted : FinMap nat_cmp (List ℕ) = objects_with extents tree in
    let of = c.in_ok-after.ensures in
    let old = same_before source objects.entries c.requires.none (block_count source.geometry) below c.requires.old exact in
    let right : with_records hand wanted ≡ wanted = prepared_exact hand extents tree (of.exact keeps
    (holds_as (bytes_of (g.B.SectorDevice.disk c.args.reader.now).now) c.args.before.now (pointers_of source.tree.now) (pointers_before source) old below held)) in
    IfOk_five c.plan_sealed.result (λ (p : TreePlan) taken made lengths entries back. holds_planned source objects c.requires.none below c.requires.old c.requires.placed p wanted old taken made lengths entries back)
    (subst (λ (o : FinMap nat_cmp (List ℕ)). IfOk c.plan_sealed.result (TakesBlocks source o objects)) right (moved (λ (o : FinMap nat_cmp (List ℕ)). IfOk c.plan_sealed.result (TakesBlocks source o objects)) hand _ _ _ _ of.extents of.below c.plan_sealed.ensures.taken))
    (subst (λ (o : FinMap nat_cmp (List ℕ)). IfOk c.plan_sealed.result (GivesTree source o objects)) right (moved (λ (o : FinMap nat_cmp (List ℕ)). IfOk c.plan_sealed.result (GivesTree source o objects)) hand _ _ _ _ of.extents of.below c.plan_sealed.ensures.tree))
    (subst (λ (o : FinMap nat_cmp (List ℕ)). IfOk c.plan_sealed.result (HasLengths source o objects)) right (moved (λ (o : FinMap nat_cmp (List ℕ)). IfOk c.plan_sealed.result (HasLengths source o objects)) hand _ _ _ _ of.extents of.below c.plan_sealed.ensures.lengths))
    (subst (λ (o : FinMap nat_cmp (List ℕ)). IfOk c.plan_sealed.result (HasEntries o objects)) right (moved (λ (o : FinMap nat_cmp (List ℕ)). IfOk c.plan_sealed.result (HasEntries o objects)) hand _ _ _ _ of.extents of.below c.plan_sealed.ensures.entries))
    c.plan_sealed.ensures.freed

pub returns-clause-refused : goal.returns-clause-refused
returns-clause-refused g c = of_want c.plan_sealed.result c.plan_sealed.ensures.refused

pub returns-clause-sound : goal.returns-clause-sound
returns-clause-sound g c = λ keeps held exact. held_want c.plan_sealed.result c.plan_sealed.ensures.refused

pub returns-clause-no_space : goal.returns-clause-no_space
returns-clause-no_space g c =
    let source = c.args.read.now in
    let objects : List (ObjectId × ObjectChanges) = c.args.objects.now.entries in
    let extents : Extents = c.args.extents.now in
    let tree : Tree = c.args.read.now.tree.now in
    let hand : ℕ → ℕ → Option (List ℕ) = at_hand c.in_ok-after.after.records in
    let wanted : FinMap nat_cmp (List ℕ) = objects_with extents tree in
    IfErr-weaker c.plan_sealed.result _ _ (λ e full no_space. (pointers_before source, short_of source objects (with_records hand wanted) wanted (prepared_length hand extents tree) e full no_space))
    (moved (λ (o : FinMap nat_cmp (List ℕ)). IfErr c.plan_sealed.result (TellsFull source o objects)) hand _ _ _ _ c.in_ok-after.ensures.extents c.in_ok-after.ensures.below c.plan_sealed.ensures.full)

pub returns-clause-short : goal.returns-clause-short
returns-clause-short g c = λ keeps held exact.
    let source = c.args.read.now in
    let objects : List (ObjectId × ObjectChanges) = c.args.objects.now.entries in
    let extents : Extents = c.args.extents.now in
    let tree : Tree = c.args.read.now.tree.now in
    let hand : ℕ → ℕ → Option (List ℕ) = at_hand c.in_ok-after.after.records in
    let wanted : FinMap nat_cmp (List ℕ) = objects_with extents tree in
    let old = same_before source objects c.requires.none (block_count source.geometry) (objects_of tree) c.requires.old exact in
    IfErr-weaker c.plan_sealed.result _ _ (λ e full. short_of_tree source objects (with_records hand wanted) wanted (prepared_length hand extents tree) e full old)
    (moved (λ (o : FinMap nat_cmp (List ℕ)). IfErr c.plan_sealed.result (TellsFull source o objects)) hand _ _ _ _ c.in_ok-after.ensures.extents c.in_ok-after.ensures.below c.plan_sealed.ensures.full)
