use Rattle.std.proofs.Common.{◌≡◌, List, [], ◌∷◌, ◌++◌, Some, is_some, true, append_assoc, ap, ◌∙◌, refl, sym}
use Rattle.std.specs.Cmp.{unsigned_tied}
use Rattle.std.proofs.lemmas.Result.{err_from_is_err_and}
use Rattle.base.specs.declared.names.ObjectId.{ObjectId}
use Rattle.base.specs.disk.Disk.{bytes_of}
use Rattle.base.specs.kept.PlacedTrees.{HoldsTree}
use Rattle.tree_blocks.specs.TreeObjects.{objects_of}
use Rattle.tree_plans.specs.declared.changes.ObjectChanges.{ObjectChanges}
use Rattle.tree_plans.specs.Pointers.{entry_of, pointers_before}
use Rattle.tree_plans.proofs.Walks.{found_of, next_of}
use Rattle.group_plans.specs.GroupPlans.{objects_with}
use Rattle.group_plans.specs.OldMaps.{HasReadMap}
use Rattle.group_plans.specs.Prepared.{AreExact, at_hand}
use Rattle.group_plans.proofs.RecordReads.{moved, ready_more}
use Rattle.group_plans.proofs.preparing.prepare.Goals as goal

pub prepare_changed-requires-clause-map : goal.prepare_changed-requires-clause-map
prepare_changed-requires-clause-map g c =
    let all : List (ObjectId × ObjectChanges) = c.args.objects.now.entries in
    let done : List (ObjectId × ObjectChanges) = c.loop-id.invariant.done in
    let e : ObjectId × ObjectChanges = (c.in-Some.id.now, c.in-Some.changes.now) in
    let rest : List (ObjectId × ObjectChanges) = c.next.new.self in
    let split : all ≡ done ++ (e ∷ rest) = c.loop-id.invariant.split ∙ ap (λ (l : List (ObjectId × ObjectChanges)). done ++ l) c.in-Some.ensures.steps in
    let found : entry_of all e.0.0 ≡ Some e.1 = next_of (λ (x : ObjectId × ObjectChanges). entry_of all x.0.0 ≡ Some x.1) all done rest e split (found_of _ (λ a b. unsigned_tied a.0 b.0) c.args.objects.now c.iter-id-items.ensures.found) in
    λ low. moved (λ i x a. HasReadMap (objects_with x a) c.args.source.now.old_maps.now.entries e.0.0 e.1) [] [] _ _ _ _ refl (sym c.loop-id.invariant.extents) (sym c.loop-id.invariant.below) (c.requires.maps e.0.0 e.1 low found)

pub loop-id-preserved : goal.loop-id-preserved
loop-id-preserved g c =
    let inv = c.loop-id.invariant in
    let ens = c.in_ok-prepare_changed.ensures in
    let done : List (ObjectId × ObjectChanges) = inv.done in
    let e : ObjectId × ObjectChanges = (c.in-Some.id.now, c.in-Some.changes.now) in
    let rest : List (ObjectId × ObjectChanges) = c.next.new.self in
    record {
      can = tt;
      ends = tt;
      size = ens.reads.size ∙ inv.size;
      disk = λ keeps. ens.reads.disk keeps ∙ inv.disk keeps;
      count = ens.reads.count ∙ inv.count;
      extents = ens.extents ∙ inv.extents;
      below = ens.below ∙ inv.below;
      done = done ++ (e ∷ []);
      split = inv.split ∙ ap (λ (l : List (ObjectId × ObjectChanges)). done ++ l) c.in-Some.ensures.steps ∙ sym (append_assoc done (e ∷ []) rest);
      ready = ready_more (λ n r. is_some (at_hand c.prepare_changed.new.prepared.records n r) ≡ true) done e
          (λ n changes low at r below dirty. ens.kept n r (inv.ready n changes low at r below dirty)) ens.ready;
      exact = λ keeps holds. moved
          (λ i x a. HoldsTree i c.args.frame.now (pointers_before c.args.source.now) (objects_of a) → AreExact (at_hand c.loop-id.prepared.records) (objects_with x a) → AreExact (at_hand c.prepare_changed.new.prepared.records) (objects_with x a))
          _ _ _ _ _ _ (ap (λ d. bytes_of d.now) (inv.disk keeps)) inv.extents inv.below (ens.exact keeps) holds (inv.exact keeps holds);
    }

pub returns-in_err-prepare_changed-clause-sound : goal.returns-in_err-prepare_changed-clause-sound
returns-in_err-prepare_changed-clause-sound g c = λ keeps holds.
    let inv = c.loop-id.invariant in
    let p = err_from_is_err_and c.from_residual.result c.from_residual.ensures.1 in
    rw (p.1, p.2) (c.in_err-prepare_changed.ensures.sound keeps
    (moved (λ i x a. HoldsTree i c.args.frame.now (pointers_before c.args.source.now) (objects_of a)) _ _ c.args.extents.now c.args.extents.now _ _ (ap (λ d. bytes_of d.now) (sym (inv.disk keeps))) refl (sym inv.below) holds))
