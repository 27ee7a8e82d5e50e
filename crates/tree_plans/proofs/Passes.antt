-- One object of a walk goes over to those that are planned: what its plan has done is told of the walk's source.
use Rattle.std.proofs.Common.{◌≡◌, ℕ, ◌<◌, ◌++◌, Bool, List, [], Option, Some, length, sym, ◌∙◌, ap, subst}
use Rattle.std.specs.Prelude.{IfSome, slice_index_or, option_map, unwrap_or, if◌then◌else◌}
use Rattle.std.specs.Option.{option_map_or}
use Rattle.std.specs.Ordering.{nat_cmp}
use Rattle.std.specs.FinMap as finite
use Rattle.std.specs.FinMap.{FinMap}
use Rattle.base.specs.declared.names.ObjectId.{ObjectId}
use Rattle.base.specs.declared.pointer.Pointer.{Pointer}
use Rattle.base.specs.formats.Limits.{object_count, pointer_count}
use Rattle.tree_blocks.specs.declared.tree.ObjectEntry.{ObjectEntry}
use Rattle.tree_blocks.specs.Pointers.{ObjectPointers, object_pointers, pointers_of_entry}
use Rattle.tree_plans.specs.declared.changed_object.ChangedObject.{ChangedObject}
use Rattle.tree_plans.specs.declared.changes.ObjectChanges.{ObjectChanges}
use Rattle.tree_blocks.specs.declared.object_map.ObjectMap.{ObjectMap}
use Rattle.tree_plans.specs.declared.plan_source.PlanSource.{PlanSource}
use Rattle.tree_plans.specs.declared.planner.Planner.{Planner}
use Rattle.tree_plans.specs.Changes.{AreInRange, has_two_levels}
use Rattle.tree_plans.specs.Order.{Adds, address_if, addresses_where, strip_addresses}
use Rattle.tree_plans.specs.Parts.{GoesOver, IsMapReadOf, IsReadAsNeeded, PlansObject, new_blocks_of, group_in}
use Rattle.tree_plans.specs.Plans.{FreesOnce, IsApart, IsObjectPlanned, IsOfMap, ObjectFrees, kept_state, progress_of, strip_state, top_state}
use Rattle.tree_plans.specs.Pointers.{IsPut, entry_of, entry_strips, maps_before, old_tree, pointers_before, pointers_in, told_strips}
use Rattle.tree_plans.specs.Room.{needed_blocks, object_blocks}
use Rattle.base.specs.tree.Syncs.{is_dirty}
use Rattle.tree_plans.proofs.Once.{objects_once_put}
use Rattle.tree_plans.proofs.Order.{data_before, entry-indirect, entry-top, entry-written, map_put, object_added, strip_before}
use Rattle.tree_plans.proofs.Room.{object_needs}
use Rattle.tree_plans.proofs.Uses.{objects_use_put, others_put}
use Rattle.tree_plans.proofs.Walks.{get_at, object_put, objects_free_put}

-- what is told of the strips of an object is what its entry tells
pub entry_tells : (entries : List ObjectEntry) (n : ℕ) (e : ObjectEntry) → n < length entries → e ≡ slice_index_or entries n e → entry_strips e ≡ told_strips entries n
entry_tells entries n e low is = sym (ap (λ (o : Option ObjectEntry). option_map_or entry_strips o []) (get_at entries n e low is))

-- the map of an object was read as its levels ask
pub map_is_read : (source : PlanSource) (after : FinMap nat_cmp (List ℕ)) (id : ObjectId) (changes : ObjectChanges) (m : ObjectMap) (is_long : Bool) → IsMapReadOf source after id changes
    → entry_of source.old_maps.now.entries id.0 ≡ Some m → is_long ≡ has_two_levels (finite.get after id.0) → IsReadAsNeeded is_long changes m
map_is_read source after id changes m is_long of there levels = subst (λ (b : Bool). IsReadAsNeeded b changes m) (sym levels) (subst (λ (o : Option ObjectMap). IfSome o (IsReadAsNeeded (has_two_levels (finite.get after id.0)) changes)) there of.read)

module _ (source : PlanSource) (after : FinMap nat_cmp (List ℕ)) (object : ChangedObject) (low : object.id.0 < object_count) (told : List (ℕ × (Pointer × List Pointer)))
    (told_is : told ≡ told_strips source.tree.now.entries.items object.id.0) (read : entry_of source.old_maps.now.entries object.id.0 ≡ Some object.old.now)
    (levels : object.is_long ≡ has_two_levels (finite.get after object.id.0)) where
  abbrev n : ℕ
  n = object.id.0

  abbrev changes : ObjectChanges
  changes = object.changes.now

  abbrev was : ObjectPointers
  was = pointers_in told object.old.now

  -- what it had is what the source's tree has of it
  was_is : maps_before source n ≡ was
  was_is = ap (λ (o : Option ObjectMap). option_map_or (pointers_in (told_strips source.tree.now.entries.items n)) o (object_pointers source.tree.now.entries.items n)) read
      ∙ ap (λ (t : List (ℕ × (Pointer × List Pointer))). pointers_in t object.old.now) (sym told_is)

  -- what a group makes of it is what its changes say
  module _ (objects : List (ObjectId × ObjectChanges)) (is : entry_of objects n ≡ Some changes) (within : AreInRange objects after) where
    pub object_needed : needed_blocks object was ≡ object_blocks (group_in source after objects) n
    object_needed = object_needs (group_in source after objects) n object was
        (λ j k j_low k_low. entry-written objects (pointers_before source) after n within low changes is j k j_low k_low ∙ ap (λ (b : Bool). is_dirty (kept_state b changes j k)) (sym levels))
        (λ j. entry-indirect objects (pointers_before source) after n changes was is (data_before (old_tree source) n was low was_is) j ∙ ap (λ (b : Bool). is_dirty (strip_state b changes was j)) (sym levels))
        (entry-top objects (pointers_before source) after n changes was is (data_before (old_tree source) n was low was_is) (strip_before (old_tree source) n was low was_is) ∙ ap (λ (b : Bool). is_dirty (top_state b changes was)) (sym levels))

  pub object_passes : (p q : Planner) (e : ObjectEntry) (old new : List (ObjectId × ObjectEntry)) → IsPut old object.id e new → PlansObject source.free.now object (finite.get after n) told p q e
      → e.length ≡ option_map length (finite.get after n) → GoesOver source after object.id changes old p q new
  object_passes p q e old new put done size = record {
    goes = done.goes;
    planned = λ objects before is below.
        object_put (maps_before source) after objects before old new object.id changes e done.goes put
        (record { low = low; changes = changes; changes_are = is; old = was; old_is = was_is; planned = planned; named = named; length = size }) below;
    frees = λ objects first is below. objects_free_put first p.freed.items q.freed.items (maps_before source) after objects old new object.id changes was e put low is was_is frees below;
    once = λ objects first is none apart below one.
        objects_once_put (old_tree source) first p.freed.items q.freed.items after objects old new object.id changes was e put low is was_is none apart below one once;
    uses = λ first none below. objects_use_put first (new_blocks_of p) (new_blocks_of q) old new object.id e put none low done.uses below;
    others = others_put old new object.id e put;
    adds = λ objects is below within. object_added (group_in source after objects) n (has_two_levels (finite.get after n)) changes was (pointers_of_entry e) _ (new_blocks_of p) (new_blocks_of q) (map_put (maps_before source) old new object.id e put)
        (entry-written objects (pointers_before source) after n within low changes is)
        (entry-indirect objects (pointers_before source) after n changes was is (data_before (old_tree source) n was low was_is))
        (entry-top objects (pointers_before source) after n changes was is (data_before (old_tree source) n was low was_is) (strip_before (old_tree source) n was low was_is)) adds;
  }
    where
      planned : IsObjectPlanned (progress_of q) n (unwrap_or (finite.get after n) []) (has_two_levels (finite.get after n)) changes was (pointers_of_entry e)
      planned = subst (λ (b : Bool). IsObjectPlanned (progress_of q) n (unwrap_or (finite.get after n) []) b changes was (pointers_of_entry e)) levels done.planned

      named : e.pointer ≡ (if has_two_levels (finite.get after n) then (pointers_of_entry e).top else (pointers_of_entry e).strip 0)
      named = subst (λ (b : Bool). e.pointer ≡ (if b then (pointers_of_entry e).top else (pointers_of_entry e).strip 0)) levels done.named

      frees : ObjectFrees p.freed.items q.freed.items (has_two_levels (finite.get after n)) changes was
      frees = subst (λ (b : Bool). ObjectFrees p.freed.items q.freed.items b changes was) levels done.frees

      once : IsApart was → FreesOnce p.freed.items q.freed.items (IsOfMap (has_two_levels (finite.get after n)) changes was)
      once = subst (λ (b : Bool). IsApart was → FreesOnce p.freed.items q.freed.items (IsOfMap b changes was)) levels done.once

      Added : Bool → Type 0
      Added b = Adds (new_blocks_of p) (new_blocks_of q) (strip_addresses (λ j k. is_dirty (kept_state b changes j k)) (pointers_of_entry e).record_at pointer_count
          ++ addresses_where (λ j. is_dirty (strip_state b changes was j)) (pointers_of_entry e).strip pointer_count ++ address_if (is_dirty (top_state b changes was)) (pointers_of_entry e).top)

      adds : Added (has_two_levels (finite.get after n))
      adds = subst Added levels done.adds
