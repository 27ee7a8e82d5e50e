-- The pointer that a map gives of a record in a strip that is written is the one that the object had.
use Rattle.std.proofs.Common.{◌≡◌, ◌∙◌, ℕ, ◌<◌, inl, inr, Bool, true, false, ◌&&◌, ◌||◌, not, List, [], ◌∷◌, Option, Some, None, is_some, refl, ap, subst, sym}
use Rattle.std.specs.Prelude.{◌==◌, if◌then◌else◌}
use Rattle.std.specs.Global.{Vec}
use Rattle.std.specs.List.{list_any}
use Rattle.std.specs.Option.{option_map_or}
use Rattle.std.specs.Ordering.{nat_cmp}
use Rattle.std.specs.FinMap as finite
use Rattle.std.specs.FinMap.{FinMap}
use Rattle.std.proofs.Math.Bool.{or-true}
use Rattle.std.proofs.lemmas.Bool.{false≢true}
use Rattle.base.specs.declared.pointer.Pointer.{Pointer}
use Rattle.base.specs.declared.record_state.RecordState.{RecordState}
use Rattle.base.specs.declared.record_state.RecordState.TheVariants.{Unchanged, Dirty, Hole}
use Rattle.base.specs.formats.Blocks.{Frame}
use Rattle.base.specs.formats.Fields.{no_pointer}
use Rattle.base.specs.formats.Limits.{object_count, pointer_count}
use Rattle.base.specs.kept.PlacedTrees.{HoldsTree}
use Rattle.base.specs.tree.Places.{record_of_strip, strip_number}
use Rattle.base.specs.tree.Places.Place.{Data}
use Rattle.base.specs.tree.Syncs.{is_dirty, is_unchanged, pointer_numbers}
use Rattle.base.proofs.tree.Strips.{strip-object, strip-which}
use Rattle.tree_blocks.specs.Pointers.{object_pointers, pointer_of_list, strip_in, told_record}
use Rattle.tree_plans.specs.declared.changes.ObjectChanges.{ObjectChanges}
use Rattle.tree_blocks.specs.declared.object_map.ObjectMap.{ObjectMap}
use Rattle.tree_plans.specs.declared.plan_source.PlanSource.{PlanSource}
use Rattle.tree_plans.specs.Changes.{has_two_levels, is_strip_dirty, is_strip_touched, state_at}
use Rattle.tree_plans.specs.Parts.{IsReadAsNeeded}
use Rattle.tree_plans.specs.Plans.{is_strip_replaced}
use Rattle.tree_blocks.specs.ReadPointers.{read_record, records_among}
use Rattle.tree_plans.specs.Pointers.{entry_of, maps_before, pointers_before, pointers_in, told_strips}
use Rattle.group_plans.specs.OldMaps.{HasReadMap}
use Rattle.group_plans.specs.Prepared.{HoldsMap}

-- a record that is written changes, so a plan looks at its strip
written_changes : (state : RecordState) → is_dirty state ≡ true → not (is_unchanged state) ≡ true
written_changes Unchanged dirty = absurd (false≢true dirty)
written_changes Dirty dirty = refl
written_changes Hole dirty = absurd (false≢true dirty)

any_other : {A : Type 0} (p q : A → Bool) → ((a : A) → p a ≡ true → q a ≡ true) → (xs : List A) → list_any p xs ≡ true → list_any q xs ≡ true
any_other p q more [] any = any
any_other p q more (x ∷ xs) any = by (p x) refl any (any_other p q more xs)
  where
    by : (b : Bool) → p x ≡ b → (b || list_any p xs) ≡ true → (list_any p xs ≡ true → list_any q xs ≡ true) → (q x || list_any q xs) ≡ true
    by true is any rest = ap (λ (c : Bool). c || list_any q xs) (more x is)
    by false is any rest = ap (λ (c : Bool). q x || c) (rest any) ∙ or-true (q x)

looked_at : (is_long : Bool) (changes : ObjectChanges) (j : ℕ) → is_strip_dirty changes j ≡ true → is_strip_replaced is_long changes j ≡ true
looked_at is_long changes j dirty = by is_long (any_other (λ k. is_dirty (state_at changes (record_of_strip j k))) (λ k. not (is_unchanged (state_at changes (record_of_strip j k))))
    (λ k is. written_changes (state_at changes (record_of_strip j k)) is) pointer_numbers dirty)
  where
    by : (b : Bool) → is_strip_touched changes j ≡ true → not (b && not (is_strip_touched changes j)) ≡ true
    by true touched = ap (λ (t : Bool). not (not t)) touched
    by false touched = refl

-- what is read of a strip without an indirect block is nothing
told_nothing : (indirect : Pointer) (records : List Pointer) (k : ℕ) → indirect ≡ no_pointer → told_record (indirect, records) k ≡ no_pointer
told_nothing indirect records k none = ap (λ (p : Pointer). if p.address == 0 then no_pointer else pointer_of_list records k) none

module _ (source : PlanSource) (n j k : ℕ) (low : n < object_count) (m : ObjectMap) (at : entry_of source.old_maps.now.entries n ≡ Some m) where
  abbrev told_list : List Pointer
  told_list = (strip_in (told_strips source.tree.now.entries.items n) j).1

  before_is : pointers_before source (Data (strip_number n j) k) ≡ told_record (pointer_of_list m.indirects.items j, option_map_or (λ (v : Vec Pointer). v.items) (records_among m.strips.entries j) told_list) k
  before_is = (λ x. (maps_before source (strip-object n j low x)).record_at (strip-which n j low x) k)
      ∙ ap (λ (o : Option ObjectMap). (option_map_or (pointers_in (told_strips source.tree.now.entries.items n)) o (object_pointers source.tree.now.entries.items n)).record_at j k) at

  pub record_before : (is_long : Bool) (changes : ObjectChanges) → IsReadAsNeeded is_long changes m → j < pointer_count → is_strip_dirty changes j ≡ true → pointers_before source (Data (strip_number n j) k) ≡ read_record m j k
  record_before is_long changes read j_low dirty = before_is ∙ elim (read.strips j j_low (looked_at is_long changes j dirty)) [
    | inl there ↦ same (records_among m.strips.entries j) there
    | inr none ↦ told_nothing (pointer_of_list m.indirects.items j) _ k none ∙ sym (told_nothing (pointer_of_list m.indirects.items j) _ k none)
  ]
    where
      list_of : Option (Vec Pointer) → List Pointer → List Pointer
      list_of o rest = option_map_or (λ (v : Vec Pointer). v.items) o rest

      same : (o : Option (Vec Pointer)) → is_some o ≡ true → told_record (pointer_of_list m.indirects.items j, list_of o told_list) k ≡ told_record (pointer_of_list m.indirects.items j, list_of o []) k
      same (Some v) there = refl
      same None there = absurd (false≢true there)

-- so a tree that is held with the pointers before has those of a map at each record that is written
pub map_held : (source : PlanSource) (image : List ℕ) (frame : Frame) (objects : FinMap nat_cmp (List ℕ)) → HoldsTree image frame (pointers_before source) objects
    → (n : ℕ) → n < object_count → (m : ObjectMap) → entry_of source.old_maps.now.entries n ≡ Some m → (after : FinMap nat_cmp (List ℕ)) (changes : ObjectChanges) → HasReadMap after source.old_maps.now.entries n changes
    → HoldsMap image frame objects n changes m
map_held source image frame objects tree n low m at after changes read =
    let same : read.map ≡ m = (let both : Some read.map ≡ Some m = sym read.map_is ∙ at in cc) in
    record {
      pointers = pointers_before source;
      tree = tree;
      are = λ j k j_low k_low dirty. record_before source n j k low m at (has_two_levels (finite.get after n)) changes (subst (IsReadAsNeeded (has_two_levels (finite.get after n)) changes) same read.read.read) j_low dirty;
    }
