use Rattle.std.proofs.Common.{◌≡◌, List, [], ◌∷◌, ◌++◌, None, Some, inl, is_some, append_assoc, ap, refl, rules, ◌∙◌, sym}
use Rattle.std.specs.Cmp.{unsigned_tied}
use Rattle.std.proofs.lemmas.List.{append-nil}
use Rattle.base.specs.declared.names.ObjectId.{ObjectId}
use Rattle.tree_blocks.specs.declared.tree.ObjectEntry.{ObjectEntry}
use Rattle.tree_plans.specs.declared.changes.ObjectChanges.{ObjectChanges}
use Rattle.tree_plans.specs.Parts.{group_in}
use Rattle.tree_plans.specs.Pointers.{entry_of, maps_before, pointers_before}
use Rattle.tree_plans.proofs.Progress.{goes_nowhere, goes_twice}
use Rattle.tree_plans.proofs.Walks.{found_of, next_of, none_planned, not_empty}
use Rattle.tree_plans.proofs.Uses.{are_of_more, next_is_new}
use Rattle.tree_plans.proofs.Order.{absent_addresses, adds_none, all_added, less_below, objects_added}
use Rattle.tree_plans.proofs.Room.{handed_on, lacks_object, no_places}
use Rattle.tree_plans.proofs.walk.place_objects.Goals as goal

pub loop-id-init : goal.loop-id-init
loop-id-init g c =
    let empty : c.new-entries.result.entries ≡ [] = search rules in
    record {
      can = tt;
      ends = tt;
      geometry = refl;
      kept = λ none. refl;
      goes = goes_nowhere _ _;
      done = [];
      split = sym (c.into_iter-id-iterator.ensures.into_iter_gives ∙ c.iter-id-items.ensures.rest);
      planned = none_planned _ _ _ _ _ empty;
      frees = λ address among. inl among;
      once = λ apart fresh distinct. distinct;
      are_of = λ n none. ap (λ (l : List (ObjectId × ObjectEntry)). entry_of l n) empty;
      uses = λ address taken. inl taken;
      adds = λ within. adds_none _;
    }

pub loop-id-preserved : goal.loop-id-preserved
loop-id-preserved g c =
    let all : List (ObjectId × ObjectChanges) = c.args.objects.now.entries in
    let done : List (ObjectId × ObjectChanges) = c.loop-id.invariant.done in
    let e : ObjectId × ObjectChanges = (c.in-Some.id.now, c.in-Some.changes.now) in
    let rest : List (ObjectId × ObjectChanges) = c.next.new.self in
    let split : all ≡ done ++ (e ∷ rest) = c.loop-id.invariant.split ∙ ap (λ (l : List (ObjectId × ObjectChanges)). done ++ l) c.in-Some.ensures.steps in
    let found : entry_of all e.0.0 ≡ Some e.1 = next_of (λ (x : ObjectId × ObjectChanges). entry_of all x.0.0 ≡ Some x.1) all done rest e split (found_of _ (λ a b. unsigned_tied a.0 b.0) c.args.objects.now c.iter-id-items.ensures.found) in
    let new : entry_of done e.0.0 ≡ None = next_is_new _ (λ a b. unsigned_tied a.0 b.0) all done rest e split c.iter-id-items.ensures.ordered in
    let told = c.in_ok-place_changed.ensures.planned in
    let unplanned = c.loop-id.invariant.are_of e.0.0 new in
    record {
      can = tt;
      ends = tt;
      geometry = c.in_ok-place_changed.ensures.geometry ∙ c.loop-id.invariant.geometry;
      kept = λ none. absurd (not_empty done e rest (sym split ∙ none));
      goes = goes_twice c.loop-id.invariant.goes told.goes;
      done = done ++ (e ∷ []);
      split = split ∙ sym (append_assoc done (e ∷ []) rest);
      planned = told.planned all done found c.loop-id.invariant.planned;
      frees = told.frees all _ found c.loop-id.invariant.frees;
      once = λ apart. told.once all _ found unplanned apart c.loop-id.invariant.frees (c.loop-id.invariant.once apart);
      are_of = are_of_more done e _ _ c.loop-id.invariant.are_of told.others;
      uses = told.uses _ unplanned c.loop-id.invariant.uses;
      adds = λ within. objects_added (group_in c.args.source.now (g.O.ObjectSource.objects c.args.after.now) all) _ _ _ _ _ _ done e new told.others (c.loop-id.invariant.adds within)
          (told.adds all found (within.numbers e.0.0 (ap is_some found)) within);
    }

pub returns-clause-planned : goal.returns-clause-planned
returns-clause-planned g c =
    let all : List (ObjectId × ObjectChanges) = c.args.objects.now.entries in
    let done : List (ObjectId × ObjectChanges) = c.loop-id.invariant.done in
    let whole : done ≡ all = sym (append-nil done) ∙ ap (λ (l : List (ObjectId × ObjectChanges)). done ++ l) (sym c.in-None.ensures.steps.0) ∙ sym c.loop-id.invariant.split in
    record {
      goes = c.loop-id.invariant.goes;
      planned = rw whole at c.loop-id.invariant.planned;
      frees = c.loop-id.invariant.frees;
      once = c.loop-id.invariant.once;
      uses = c.loop-id.invariant.uses;
      adds = λ within. all_added _ (λ a b. less_below a.0 b.0) 5292 (group_in c.args.source.now (g.O.ObjectSource.objects c.args.after.now) all) (maps_before c.args.source.now) c.loop-id.entries.entries all done _ _ whole c.iter-id-items.ensures.ordered within.numbers
          (λ n none. absent_addresses all (pointers_before c.args.source.now) (g.O.ObjectSource.objects c.args.after.now) n _ none) (c.loop-id.invariant.adds within);
    }

pub returns-in_err-place_changed-clause-full : goal.returns-in_err-place_changed-clause-full
returns-in_err-place_changed-clause-full g c =
    let all : List (ObjectId × ObjectChanges) = c.args.objects.now.entries in
    let done : List (ObjectId × ObjectChanges) = c.loop-id.invariant.done in
    let e : ObjectId × ObjectChanges = (c.in-Some.id.now, c.in-Some.changes.now) in
    let rest : List (ObjectId × ObjectChanges) = c.next.new.self in
    let split : all ≡ done ++ (e ∷ rest) = c.loop-id.invariant.split ∙ ap (λ (l : List (ObjectId × ObjectChanges)). done ++ l) c.in-Some.ensures.steps in
    let found : entry_of all e.0.0 ≡ Some e.1 = next_of (λ (x : ObjectId × ObjectChanges). entry_of all x.0.0 ≡ Some x.1) all done rest e split (found_of _ (λ a b. unsigned_tied a.0 b.0) c.args.objects.now c.iter-id-items.ensures.found) in
    handed_on c.from_residual.result _ _ c.from_residual.ensures.1 (λ within no_space. lacks_object _ (λ a b. less_below a.0 b.0) _ _ _ (group_in c.args.source.now (g.O.ObjectSource.objects c.args.after.now) all) (maps_before c.args.source.now) c.loop-id.entries.entries 5292 all done rest e split c.iter-id-items.ensures.ordered within.numbers
    (λ n none. no_places all (pointers_before c.args.source.now) (g.O.ObjectSource.objects c.args.after.now) n none) c.loop-id.invariant.goes (c.loop-id.invariant.adds within) (c.in_err-place_changed.ensures.full all found within no_space))

pub place_changed-requires-clause-ready : goal.place_changed-requires-clause-ready
place_changed-requires-clause-ready g c =
    let all : List (ObjectId × ObjectChanges) = c.args.objects.now.entries in
    let done : List (ObjectId × ObjectChanges) = c.loop-id.invariant.done in
    let e : ObjectId × ObjectChanges = (c.in-Some.id.now, c.in-Some.changes.now) in
    let rest : List (ObjectId × ObjectChanges) = c.next.new.self in
    let split : all ≡ done ++ (e ∷ rest) = c.loop-id.invariant.split ∙ ap (λ (l : List (ObjectId × ObjectChanges)). done ++ l) c.in-Some.ensures.steps in
    let found : entry_of all e.0.0 ≡ Some e.1 = next_of (λ (x : ObjectId × ObjectChanges). entry_of all x.0.0 ≡ Some x.1) all done rest e split (found_of _ (λ a b. unsigned_tied a.0 b.0) c.args.objects.now c.iter-id-items.ensures.found) in
    λ low. c.requires.ready e.0.0 e.1 low found

pub place_changed-requires-clause-map : goal.place_changed-requires-clause-map
place_changed-requires-clause-map g c =
    let all : List (ObjectId × ObjectChanges) = c.args.objects.now.entries in
    let done : List (ObjectId × ObjectChanges) = c.loop-id.invariant.done in
    let e : ObjectId × ObjectChanges = (c.in-Some.id.now, c.in-Some.changes.now) in
    let rest : List (ObjectId × ObjectChanges) = c.next.new.self in
    let split : all ≡ done ++ (e ∷ rest) = c.loop-id.invariant.split ∙ ap (λ (l : List (ObjectId × ObjectChanges)). done ++ l) c.in-Some.ensures.steps in
    let found : entry_of all e.0.0 ≡ Some e.1 = next_of (λ (x : ObjectId × ObjectChanges). entry_of all x.0.0 ≡ Some x.1) all done rest e split (found_of _ (λ a b. unsigned_tied a.0 b.0) c.args.objects.now c.iter-id-items.ensures.found) in
    λ low. c.requires.maps e.0 e.1 low found
