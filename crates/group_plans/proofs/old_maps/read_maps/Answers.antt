use Rattle.std.proofs.Common.{◌≡◌, ◌∙◌, List, [], ◌∷◌, ◌++◌, Some, append_assoc, ap, subst, sym}
use Rattle.std.specs.Cmp.{unsigned_tied}
use Rattle.std.proofs.lemmas.Result.{err_from_is_err_and}
use Rattle.base.specs.declared.names.ObjectId.{ObjectId}
use Rattle.base.specs.disk.Disk.{Disk, bytes_of}
use Rattle.tree_plans.specs.declared.changes.ObjectChanges.{ObjectChanges}
use Rattle.tree_plans.specs.Pointers.{entry_of}
use Rattle.tree_plans.proofs.Walks.{found_of, next_of}
use Rattle.group_plans.specs.GroupPlans.{objects_with}
use Rattle.group_plans.specs.OldMaps.{HoldsOwn}
use Rattle.group_plans.proofs.OldMaps.{none_more, read_more}
use Rattle.group_plans.proofs.old_maps.read_maps.Goals as goal

pub loop-id-preserved : goal.loop-id-preserved
loop-id-preserved g c =
    let inv = c.loop-id.invariant in
    let ens = c.in_ok-read_changed.ensures in
    let all : List (ObjectId × ObjectChanges) = c.args.objects.now.entries in
    let done : List (ObjectId × ObjectChanges) = inv.done in
    let e : ObjectId × ObjectChanges = (c.in-Some.id.now, c.in-Some.changes.now) in
    let rest : List (ObjectId × ObjectChanges) = c.next.new.self in
    let split : all ≡ done ++ (e ∷ rest) = inv.split ∙ ap (λ (l : List (ObjectId × ObjectChanges)). done ++ l) c.in-Some.ensures.steps in
    let found : entry_of all e.0.0 ≡ Some e.1 = next_of (λ (x : ObjectId × ObjectChanges). entry_of all x.0.0 ≡ Some x.1) all done rest e split (found_of _ (λ a b. unsigned_tied a.0 b.0) c.args.objects.now c.iter-id-items.ensures.found) in
    record {
      can = tt;
      ends = tt;
      size = ens.reads.size ∙ inv.size;
      disk = λ keeps. ens.reads.disk keeps ∙ inv.disk keeps;
      count = ens.reads.count ∙ inv.count;
      done = done ++ (e ∷ []);
      split = split ∙ sym (append_assoc done (e ∷ []) rest);
      read = read_more done rest e c.loop-id.maps.entries c.read_changed.new.maps.entries ens.others (objects_with c.args.extents.now c.args.source.now.tree.now)
          (subst (λ (l : List (ObjectId × ObjectChanges)). entry_of l e.0.0 ≡ Some e.1) split found) ens.read inv.read;
      none = none_more done rest e c.loop-id.maps.entries c.read_changed.new.maps.entries ens.others inv.none;
      maps = ens.maps inv.maps;
      exact = λ keeps held. ens.exact keeps (subst (λ (d : Disk). HoldsOwn (bytes_of d.now) c.args.frame.now c.args.source.now.tree.now) (sym (inv.disk keeps)) held) (inv.exact keeps held);
    }

pub returns-in_err-read_changed-clause-sound : goal.returns-in_err-read_changed-clause-sound
returns-in_err-read_changed-clause-sound g c = λ keeps held.
    let p = err_from_is_err_and c.from_residual.result c.from_residual.ensures.1 in
    rw (p.1, p.2) (c.in_err-read_changed.ensures.sound keeps
    (subst (λ (d : Disk). HoldsOwn (bytes_of d.now) c.args.frame.now c.args.source.now.tree.now) (sym (c.loop-id.invariant.disk keeps)) held))
