use Rattle.std.proofs.Common.{ℕ, List, inl, inr, refl, subst, sym}
use Rattle.std.proofs.lemmas.Result.{IfErr-weaker, IfOk-weaker, err_from_is_err_and}
use Rattle.base.specs.declared.names.ObjectId.{ObjectId}
use Rattle.tree_plans.specs.declared.changes.ObjectChanges.{ObjectChanges}
use Rattle.tree_plans.specs.Marks.{AreChangesOf, pending_ops}
use Rattle.base.specs.disk.Disk.{Disk, bytes_of}
use Rattle.tree_blocks.specs.TreeObjects.{objects_of}
use Rattle.group_plans.specs.GroupPlans.{frame_planned, objects_with}
use Rattle.group_plans.specs.OldMaps.{AreMapsOf, HoldsOwn}
use Rattle.group_plans.proofs.ReadPlans.{group_held, group_short, group_tree, tree_short}
use Rattle.group_plans.proofs.PreparedPlans.{held_prepare, no_space_prepare, of_prepare}
use Rattle.group_plans.proofs.planning.plan_group.Goals as goal

pub returns-in_err-objects-clause-reads : goal.returns-in_err-objects-clause-reads
returns-in_err-objects-clause-reads g c =
    let p = err_from_is_err_and c.from_residual.result c.from_residual.ensures.1 in
    record { size = refl; disk = λ keeps. refl; count = rw (p.1, p.2, c.in_err-objects.ensures.refused) refl }

pub returns-in_err-objects-clause-refused : goal.returns-in_err-objects-clause-refused
returns-in_err-objects-clause-refused g c =
    let p = err_from_is_err_and c.from_residual.result c.from_residual.ensures.1 in
    rw (p.1, p.2) (inl (inr c.in_err-objects.ensures.refused))

pub returns-in_err-objects-clause-sound : goal.returns-in_err-objects-clause-sound
returns-in_err-objects-clause-sound g c = λ keeps held.
    let p = err_from_is_err_and c.from_residual.result c.from_residual.ensures.1 in
    rw (p.1, p.2) (inl (inr c.in_err-objects.ensures.refused))

pub returns-in_err-old_maps-clause-refused : goal.returns-in_err-old_maps-clause-refused
returns-in_err-old_maps-clause-refused g c =
    let p = err_from_is_err_and c.from_residual-in_err-old_maps.result c.from_residual-in_err-old_maps.ensures.1 in
    rw (p.1, p.2) (of_prepare _ c.in_err-old_maps.ensures.refused)

pub returns-in_err-old_maps-clause-sound : goal.returns-in_err-old_maps-clause-sound
returns-in_err-old_maps-clause-sound g c = λ keeps held.
    let p = err_from_is_err_and c.from_residual-in_err-old_maps.result c.from_residual-in_err-old_maps.ensures.1 in
    rw (p.1, p.2) (held_prepare _ (c.in_err-old_maps.ensures.sound keeps held))

pub returns-in_err-old_maps-clause-no_space : goal.returns-in_err-old_maps-clause-no_space
returns-in_err-old_maps-clause-no_space g c =
    let p = err_from_is_err_and c.from_residual-in_err-old_maps.result c.from_residual-in_err-old_maps.ensures.1 in
    rw (p.1, p.2) (λ space. absurd (no_space_prepare _ c.in_err-old_maps.ensures.refused space))

pub returns-in_err-old_maps-clause-short : goal.returns-in_err-old_maps-clause-short
returns-in_err-old_maps-clause-short g c = λ keeps held.
    let p = err_from_is_err_and c.from_residual-in_err-old_maps.result c.from_residual-in_err-old_maps.ensures.1 in
    rw (p.1, p.2) (λ space. absurd (no_space_prepare _ c.in_err-old_maps.ensures.refused space))

pub plan_read-requires-clause-old : goal.plan_read-requires-clause-old
plan_read-requires-clause-old g c =
    subst (λ (b : ℕ). AreMapsOf b c.args.source.now.tree.now (objects_of c.args.source.now.tree.now) c.in_ok-old_maps.old_maps.entries) c.requires.area c.in_ok-old_maps.ensures.maps

pub returns-clause-tree : goal.returns-clause-tree
returns-clause-tree g c =
    let source = c.args.source.now in
    let tree = source.tree.now in
    let objects : List (ObjectId × ObjectChanges) = c.in_ok-objects.objects.entries in
    let changes : AreChangesOf (pending_ops source.group.0 c.args.records.now) tree.entries.items objects = rw (← c.deref.ensures.value) c.in_ok-objects.ensures.changes in
    IfOk-weaker c.plan_read.result _ _ (λ p made. (made.0, group_tree (frame_planned source) c.args.records.now tree objects changes (objects_with c.args.extents.now c.args.source.now.tree.now) made.0 p made.1)) c.plan_read.ensures.tree

pub returns-clause-objects : goal.returns-clause-objects
returns-clause-objects g c = λ keeps held.
    let source = c.args.source.now in
    let tree = source.tree.now in
    let objects : List (ObjectId × ObjectChanges) = c.in_ok-objects.objects.entries in
    let changes : AreChangesOf (pending_ops source.group.0 c.args.records.now) tree.entries.items objects = rw (← c.deref.ensures.value) c.in_ok-objects.ensures.changes in
    let still = subst (λ (d : Disk). HoldsOwn (bytes_of d.now) c.args.before.now tree) (sym (c.in_ok-old_maps.ensures.reads.disk keeps)) held in
    IfOk-weaker c.plan_read.result _ _ (λ p h. group_held (frame_planned source) c.args.records.now tree objects changes (objects_with c.args.extents.now c.args.source.now.tree.now) p h)
    (c.plan_read.ensures.objects keeps still (c.in_ok-old_maps.ensures.exact keeps held))

pub returns-clause-sound : goal.returns-clause-sound
returns-clause-sound g c = λ keeps held.
    let tree = c.args.source.now.tree.now in
    let still = subst (λ (d : Disk). HoldsOwn (bytes_of d.now) c.args.before.now tree) (sym (c.in_ok-old_maps.ensures.reads.disk keeps)) held in
    c.plan_read.ensures.sound keeps still (c.in_ok-old_maps.ensures.exact keeps held)

pub returns-clause-no_space : goal.returns-clause-no_space
returns-clause-no_space g c =
    let source = c.args.source.now in
    let tree = source.tree.now in
    let objects : List (ObjectId × ObjectChanges) = c.in_ok-objects.objects.entries in
    let changes : AreChangesOf (pending_ops source.group.0 c.args.records.now) tree.entries.items objects = rw (← c.deref.ensures.value) c.in_ok-objects.ensures.changes in
    IfErr-weaker c.plan_read.result _ _ (λ e short. group_short (frame_planned source) c.args.records.now tree objects changes (objects_with c.args.extents.now c.args.source.now.tree.now) source.free.now.free e short) c.plan_read.ensures.no_space

pub returns-clause-short : goal.returns-clause-short
returns-clause-short g c = λ keeps held.
    let source = c.args.source.now in
    let tree = source.tree.now in
    let objects : List (ObjectId × ObjectChanges) = c.in_ok-objects.objects.entries in
    let changes : AreChangesOf (pending_ops source.group.0 c.args.records.now) tree.entries.items objects = rw (← c.deref.ensures.value) c.in_ok-objects.ensures.changes in
    let still = subst (λ (d : Disk). HoldsOwn (bytes_of d.now) c.args.before.now tree) (sym (c.in_ok-old_maps.ensures.reads.disk keeps)) held in
    IfErr-weaker c.plan_read.result _ _ (λ e short. tree_short (frame_planned source) c.args.records.now tree objects changes (objects_with c.args.extents.now c.args.source.now.tree.now) source.free.now.free e short)
    (c.plan_read.ensures.short keeps still (c.in_ok-old_maps.ensures.exact keeps held))
