-- The plan of a group makes the tree of what its operations leave from the tree of the contents before them.
use Rattle.std.proofs.Common.{◌≡◌, ℕ, ◌*◌, ◌<◌, ◌≤◌, Bool, true, false, List, [], length, map, ap, sym, subst, ◌∙◌, ◌⊎◌, inl, inr, refl, arith}
use Rattle.std.specs.Prelude.{◌≢◌, Option, None, Some, IfSome, is_some, nat_lt, option_map, slice_get, unwrap_or, if◌then◌else◌}
use Rattle.std.specs.List.{list_any}
use Rattle.std.specs.Option.{option_map_or}
use Rattle.std.specs.Ordering.{nat_cmp}
use Rattle.std.specs.FinMap as finite
use Rattle.std.specs.FinMap.{FinMap}
use Rattle.std.proofs.lemmas.Bool.{cases_lt, false≢true, ltb-true}
use Rattle.base.specs.declared.names.ObjectId.{ObjectId}
use Rattle.base.specs.declared.operation.Op.{Op}
use Rattle.base.specs.declared.pointer.Pointer.{Pointer}
use Rattle.base.specs.declared.record_state.RecordState.{RecordState}
use Rattle.base.specs.declared.record_state.RecordState.TheVariants.{Unchanged, Dirty, Hole}
use Rattle.base.specs.formats.Blocks.{Frame}
use Rattle.base.specs.formats.Fields.{no_pointer}
use Rattle.base.specs.formats.Limits.{object_count, one_level_length, pointer_count, record_count, record_size}
use Rattle.base.specs.history.Contents.{Contents}
use Rattle.base.specs.kept.PlacedTrees.{HasNonePast, HoldsTree, IsLong, NeedsNoTop}
use Rattle.base.specs.tree.Places.{Place, object_of_indirect, record_number, record_of_strip, strip_number, strip_of, strip_start}
use Rattle.base.specs.tree.Places.Place.{Top, Indirect, Data}
use Rattle.base.specs.kept.PlannedTrees.{IsTreePlan, NewBlock}
use Rattle.base.specs.tree.Syncs.{is_on, record_state}
use Rattle.base.proofs.tree.PlacedTrees.{absent-indirect, none-by_address}
use Rattle.base.proofs.tree.RecordStates.{HasRecord, dirty-record, hole-record, state-gone, state-made, tree-record, unchanged-record}
use Rattle.base.proofs.tree.Strips.{first-object, first-which, number-strip, record-low}
use Rattle.tree_blocks.specs.declared.tree.ObjectEntry.{ObjectEntry}
use Rattle.tree_blocks.specs.declared.tree.Tree.{Tree}
use Rattle.tree_blocks.specs.Lengths.{length_in}
use Rattle.tree_blocks.specs.Sources.{object_length}
use Rattle.tree_blocks.specs.Pointers.{ObjectPointers, is_long_entry, no_pointers, object_pointers, pointers_of, pointers_of_entry}
use Rattle.records.specs.declared.record.Record.{Record}
use Rattle.tree_plans.specs.declared.changes.ObjectChanges.{ObjectChanges}
use Rattle.tree_plans.specs.Changes.{AreChanges, AreTreePointers, HasNoByteFrom, IsCoveredBy, IsEntryPointer, has_two_levels, is_changed_in, state_in}
use Rattle.tree_plans.specs.Marks.{AreChangesOf, pending_ops}
use Rattle.tree_plans.specs.Plans.{new_block}
use Rattle.tree_plans.specs.Pointers.{entry_of, entry_pointer_of}
use Rattle.group_plans.specs.GroupPlans.{IsPlannedGroup, plan_pointers}
use Rattle.group_plans.specs.Laws.{PlansMakeTrees}
use Rattle.group_plans.specs.Operations.{AreSized, TakesPlace}
use Rattle.group_plans.proofs.GroupChanges.{object_kept, states_are}
use Rattle.group_plans.proofs.ToldStrips.{long-top, short-strip}

-- a record that is there begins before the end of its object
record_within : (r : ℕ) (o : Option (List ℕ)) → HasRecord r o → IfSome o (λ bytes. record_size * r < length bytes)
record_within r o (bytes, is, low) = subst (λ (q : Option (List ℕ)). IfSome q (λ (b : List ℕ). record_size * r < length b)) (sym is) low

-- the entries of a tree in memory name the pointers that it has, of the objects whose lengths it has
pub entries_name : (tree : Tree) (objects : FinMap nat_cmp (List ℕ)) → ((n : ℕ) → n < object_count → length_in tree.entries.items n ≡ object_length objects n) → (n : ℕ) → n < object_count
    → IsEntryPointer (entry_pointer_of tree.entries.items n) (pointers_of tree (Top n)) (pointers_of tree (Indirect n)) (finite.get objects n)
entries_name tree objects lengths n low = by (slice_get tree.entries.items n) refl (finite.get objects n) (lengths n low)
  where
    entries : List ObjectEntry
    entries = tree.entries.items

    first : pointers_of tree (Indirect n) ≡ (object_pointers entries n).strip 0
    first = λ x. (object_pointers entries (first-object n low x)).strip (first-which n low x)

    at_levels : (e : ObjectEntry) (b : Bool) → is_long_entry e ≡ b → e.pointer ≡ (if b then (pointers_of_entry e).top else (pointers_of_entry e).strip 0)
    at_levels e true long = sym (long-top e long)
    at_levels e false short = sym (short-strip e 0 short)

    by : (o : Option ObjectEntry) → slice_get entries n ≡ o → (object : Option (List ℕ)) → option_map_or (λ (e : ObjectEntry). e.length) (slice_get entries n) None ≡ option_map length object
        → IsEntryPointer (entry_pointer_of entries n) (pointers_of tree (Top n)) (pointers_of tree (Indirect n)) object
    by o at None same = tt
    by None at (Some bytes) same = absurd (let no : None ≡ Some (length bytes) = ap (λ (q : Option ObjectEntry). option_map_or (λ (e : ObjectEntry). e.length) q None) (sym at) ∙ same in cc)
    by (Some e) at (Some bytes) same =
        let size : e.length ≡ Some (length bytes) = ap (λ (q : Option ObjectEntry). option_map_or (λ (x : ObjectEntry). x.length) q None) (sym at) ∙ same in
        let long : is_long_entry e ≡ has_two_levels (Some bytes) = ap (λ (q : Option ℕ). option_map_or (λ size. nat_lt one_level_length size) q false) size in
        let own : object_pointers entries n ≡ pointers_of_entry e = ap (λ (q : Option ObjectEntry). option_map_or pointers_of_entry q no_pointers) at in
        ap (λ (q : Option ObjectEntry). option_map_or (λ (x : ObjectEntry). x.pointer) q no_pointer) at ∙ at_levels e (has_two_levels (Some bytes)) long
        ∙ (λ x. if has_two_levels (Some bytes) then (sym own x).top else sym (first ∙ ap (λ (o : ObjectPointers). o.strip 0) own) x)

-- Some bytes hold the tree of the contents before the operations of a group, with these pointers.
module _ (ops : List Op) (maps : List ObjectEntry) (before after : Contents) (x : TakesPlace ops maps before after)
    (image : List ℕ) (frame : Frame) (pointers : Place → Pointer) (tree : HoldsTree image frame pointers before.objects) (objects : List (ObjectId × ObjectChanges)) (changes : AreChangesOf ops maps objects) where
  off : (n : ℕ) → entry_of objects n ≡ None → is_some (entry_of objects n) ≡ false
  off n none = ap (λ (o : Option ObjectChanges). is_some o) none

  is_state : (n r : ℕ) → r < record_count → (state : RecordState) → state_in objects n r ≡ state → record_state n r ops before Unchanged ≡ state
  is_state n r below state is = sym (states_are ops maps before after x objects changes n r below) ∙ is

  pub covered : IsCoveredBy objects pointers before.objects after.objects
  covered = record {
    records = λ m k low k_low state.
        let n : ℕ = object_of_indirect m in
        let r : ℕ = record_number m k in
        let same = unchanged-record n r ops before after x.leads (is_state n r (record-low (strip_of m) k (number-strip m low) k_low) Unchanged state) in
        tree-record image frame pointers before.objects tree m k (finite.get before.objects n) (finite.get after.objects n) low k_low refl same.0 same.1;
    holes = λ n r low below state. hole-record n r ops before after x.leads (is_state n r below Hole state);
    entries = λ n low none. ap (λ (o : Option (List ℕ)). option_map length o) (object_kept ops maps before after x objects changes n (off n none));
  }

  pub group_is : AreSized after.objects → AreChanges objects after.objects
  group_is sized = record {
    within = λ n r low below state. record_within r (finite.get after.objects n) (dirty-record n r ops before after x.leads (is_state n r below Dirty state));
    holes = λ n r low below is why. states_are ops maps before after x objects changes n r below ∙ holes_of n r (sym (changes.there n) ∙ is) why;
    sizes = sized;
  }
    where
      holes_of : (n r : ℕ) → list_any (is_on n) ops ≡ true → (is_changed_in objects n ≡ false) ⊎ (finite.get after.objects n ≡ None) → record_state n r ops before Unchanged ≡ Hole
      holes_of n r on (inl made) = state-made n r ops before Unchanged (sym (changes.changed n) ∙ made) on
      holes_of n r on (inr gone) = state-gone n r ops before after Unchanged x.leads on gone

  -- a later strip that has an indirect block begins before the end of its object
  strip_within : (n j : ℕ) → n < object_count → j < pointer_count → j ≢ 0 → pointers (Indirect (strip_number n j)) ≢ no_pointer → HasRecord (record_of_strip j 0) (finite.get before.objects n)
  strip_within n j low j_low later there = elim (tree.each (Top n) low) as (λ _. HasRecord (record_of_strip j 0) (finite.get before.objects n)) [
    | inl h ↦ absurd (no_top (h.1 j j_low))
    | inr h ↦ by (finite.get before.objects n) refl h.0 (h.3 j j_low).1
  ]
    where
      no_top : NeedsNoTop (finite.get before.objects n) j (pointers (Indirect (strip_number n j))) → ⊥
      no_top (inl none) = there none
      no_top (inr first) = later first.0

      by : (o : Option (List ℕ)) → finite.get before.objects n ≡ o → IsLong o → HasNonePast o j (pointers (Indirect (strip_number n j))) → HasRecord (record_of_strip j 0) (finite.get before.objects n)
      by None is long past = absurd (long)
      by (Some bytes) is long past = elim (cases_lt (strip_start j) (length bytes)) as (λ _. HasRecord (record_of_strip j 0) (finite.get before.objects n)) [
        | inl begins ↦ (bytes, is, (omega (arith, begins)))
        | inr ends ↦ absurd (there (past ends))
      ]

  -- so if its object ends before it after the operations, it begins with a hole
  cut_off : (n j : ℕ) → n < object_count → j < pointer_count → has_two_levels (finite.get after.objects n) ≡ true → HasNoByteFrom j (finite.get after.objects n)
      → pointers (Indirect (strip_number n j)) ≢ no_pointer → state_in objects n (record_of_strip j 0) ≡ Hole
  cut_off n j low j_low long ends there = by (finite.get after.objects n) refl long ends
    where
      r : ℕ
      r = record_of_strip j 0

      no_record : (bytes : List ℕ) → length bytes ≤ strip_start j → record_size * r < length bytes → ⊥
      no_record bytes past begins = omega (arith, past, begins)

      at_state : (bytes : List ℕ) → finite.get after.objects n ≡ Some bytes → length bytes ≤ strip_start j → j ≢ 0 → (state : RecordState) → state_in objects n r ≡ state → state ≡ Hole
      at_state bytes is past later Hole state = refl
      at_state bytes is past later Dirty state =
          let h = dirty-record n r ops before after x.leads (is_state n r (record-low j 0 j_low (omega arith)) Dirty state) in
          absurd (no_record h.0 (rw (let same : Some bytes ≡ Some h.0 = sym is ∙ h.1 in (let e : bytes ≡ h.0 = cc in sym e)) past) h.2)
      at_state bytes is past later Unchanged state =
          let was = strip_within n j low j_low later there in
          let kept = unchanged-record n r ops before after x.leads (is_state n r (record-low j 0 j_low (omega arith)) Unchanged state) in
          let begins = kept.1 (subst (λ (o : Option (List ℕ)). record_size * r < length (unwrap_or o [])) (sym was.1) was.2) in
          absurd (no_record bytes past (subst (λ (o : Option (List ℕ)). record_size * r < length (unwrap_or o [])) is begins))

      by : (o : Option (List ℕ)) → finite.get after.objects n ≡ o → has_two_levels o ≡ true → HasNoByteFrom j o → state_in objects n r ≡ Hole
      by None is above past = absurd (false≢true above)
      by (Some bytes) is above past =
          let more : one_level_length < length bytes = ltb-true one_level_length (length bytes) above in
          at_state bytes is past (λ first. omega (arith, first, more, past)) (state_in objects n r) refl

  -- where the entries before them name these pointers
  pub of_tree : ((n : ℕ) → n < object_count → IsEntryPointer (entry_pointer_of maps n) (pointers (Top n)) (pointers (Indirect n)) (finite.get before.objects n))
      → AreTreePointers objects (entry_pointer_of maps) pointers after.objects
  of_tree named = record {
    absent = λ n low none gone. absent-indirect image frame pointers before.objects tree n low (object_kept ops maps before after x objects changes n (off n none) ∙ gone);
    entries = λ n low none. subst (λ (o : Option (List ℕ)). IsEntryPointer (entry_pointer_of maps n) (pointers (Top n)) (pointers (Indirect n)) o)
        (object_kept ops maps before after x objects changes n (off n none)) (named n low);
    named_records = λ m k low k_low. none-by_address image frame pointers before.objects tree (Data m k) (low, k_low);
    named_strips = λ m low. none-by_address image frame pointers before.objects tree (Indirect m) low;
    cut_off = λ n j low j_low is long ends there. cut_off n j low j_low long ends there;
  }

-- So the blocks of the plan make the tree of the contents after them.
pub tree_planned : (group : ℕ) (records : List Record) (maps : List ObjectEntry) (before after : Contents) → TakesPlace (pending_ops group records) maps before after → AreSized after.objects
    → (image : List ℕ) (old_frame : Frame) (pointers : Place → Pointer) → HoldsTree image old_frame pointers before.objects
    → ((n : ℕ) → n < object_count → IsEntryPointer (entry_pointer_of maps n) (pointers (Top n)) (pointers (Indirect n)) (finite.get before.objects n))
    → (frame : Frame) (new : Place → Pointer) (bs : List NewBlock) → IsPlannedGroup group records maps frame pointers new bs after.objects → IsTreePlan bs frame pointers new before.objects after.objects
tree_planned group records maps before after x sized image old_frame pointers tree named frame new bs from =
    let ops = pending_ops group records in
    from.planned before.objects (covered ops maps before after x image old_frame pointers tree from.objects from.changes) (group_is ops maps before after x image old_frame pointers tree from.objects from.changes sized)
    (of_tree ops maps before after x image old_frame pointers tree from.objects from.changes named)

pub plans_make_trees : PlansMakeTrees
plans_make_trees frame before_frame tree records before after p makes x sized image holds =
    tree_planned frame.group records tree.entries.items before after x sized image before_frame (pointers_of tree) holds (entries_name tree before.objects (λ n low. x.sizes n low)) frame (plan_pointers tree p) (map new_block p.blocks.items) makes.held
