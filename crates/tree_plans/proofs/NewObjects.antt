-- An object after a plan: the pointers of its new entry are those that were placed, and the ones that it kept.
use Rattle.std.proofs.Common.{◌≡◌, ◌==◌, ℕ, ◌<◌, ◌⊎◌, inl, inr, Bool, true, false, not, ◌&&◌, ◌||◌, List, [], ◌++◌, length, Option, None, Some, refl, sym, ◌∙◌, ap, subst, arith}
use Rattle.std.specs.Prelude.{is_some, vec_len, IfSome, if◌then◌else◌}
use Rattle.std.specs.Global.{Vec}
use Rattle.std.specs.List.{list_any}
use Rattle.std.specs.Option.{option_map_or}
use Rattle.std.proofs.lemmas.Bool.{and_parts, cases_Bool, eqb-true, false≢true, or_cases, true≢false}
use Rattle.std.proofs.Math.Bool.{and-false}
use Rattle.base.specs.declared.pointer.Pointer.{Pointer}
use Rattle.base.specs.declared.record_state.RecordState.{RecordState}
use Rattle.base.specs.declared.record_state.RecordState.TheVariants.{Unchanged, Dirty, Hole}
use Rattle.base.specs.formats.Fields.{no_pointer}
use Rattle.base.specs.formats.Limits.{pointer_count}
use Rattle.base.specs.tree.Places.{record_of_strip, strip_number}
use Rattle.base.specs.tree.Places.Place.{Indirect}
use Rattle.base.specs.tree.Syncs.{has_block_after, is_dirty}
use Rattle.base.proofs.common.KeptLists.{none_between}
use Rattle.base.proofs.common.Choices.{none_there}
use Rattle.tree_blocks.specs.declared.tree.ObjectEntry.{ObjectEntry}
use Rattle.tree_blocks.specs.Pointers.{ObjectPointers, pointer_of_list, pointers_of_entry, strip_in, told_record}
use Rattle.space.specs.FreeSets.{FreeSpace}
use Rattle.tree_plans.specs.declared.changed_object.ChangedObject.{ChangedObject}
use Rattle.tree_plans.specs.declared.planner.Planner.{Planner}
use Rattle.tree_plans.specs.Changes.{has_address, is_strip_dirty, is_strip_touched, may_have_blocks, state_at}
use Rattle.tree_blocks.specs.Entries.{is_long_size}
use Rattle.tree_plans.specs.Order.{Adds, address_if, new_addresses, addresses_where, strip_addresses}
use Rattle.tree_plans.specs.Parts.{AreMet, IsMapRead, IsOfMade, MadeBy, PlansIndirects, PlansStrips, PlansTop, new_blocks_of, old_in}
use Rattle.tree_plans.specs.Plans.{FreesFrom, FreesOnce, IsApart, IsObjectPlanned, IsOf, IsOfIndirect, IsOfMap, IsOfStrip, IsRecordPlanned, IsStripPlanned, IsTopPlanned, ObjectFrees, Progress, has_record_left, is_dirty_in, is_indirect_made, is_strip_left, is_strip_replaced, kept_state, progress_of, records_with, replaces, state_above, state_over_indirects, state_over_records, strip_state, top_state}
use Rattle.tree_plans.specs.Pointers.{pointers_in, strip_with, strips_with}
use Rattle.tree_blocks.specs.ReadPointers.{records_among}
use Rattle.tree_plans.specs.Room.{count_where, is_indirect_needed, is_top_needed}
use Rattle.tree_plans.specs.Uses.{ObjectUses}
use Rattle.tree_plans.proofs.Once.{object_once}
use Rattle.tree_plans.proofs.Order.{addresses_equal, addresses_same, adds_twice, any-told, become-names_block, dirty_above, indirect-told, strip_addresses_marked}
use Rattle.tree_plans.proofs.Progress.{become_stays, frees_more, goes_twice, record_stays}
use Rattle.tree_plans.proofs.Room.{count_same}
use Rattle.tree_plans.proofs.Uses.{object_uses}
use Rattle.tree_plans.proofs.Levels.{entry_first, entry_first_record, entry_no_record, entry_no_strip, entry_no_top, entry_record, entry_strip, entry_top, read_same, replaced_same, strip-state-read, top-state-read}
use Rattle.tree_plans.proofs.Strips.{kept-dirty, none_passes_at, stays-parts, stays_unchanged, told_none, unmet_none, untouched_record, unwritten_record}

-- a strip of an object of one level that is not the first may have no block, and is looked at
pub later_none : (is_changed : Bool) (j : ℕ) → (j == 0) ≡ false → may_have_blocks false is_changed j ≡ false
later_none is_changed j later = ap (λ (b : Bool). b && is_changed) later

module _ (object : ChangedObject) (read : IsMapRead object) (strips : List (ℕ × Vec Pointer)) (met : AreMet object pointer_count strips) where
  abbrev was : ObjectPointers
  was = old_in object

  -- the strip is not among them
  module _ (j : ℕ) (low : j < pointer_count) (none : records_among strips j ≡ None) where
    unmet : (is_some (records_among object.old.now.strips.entries j) ≡ false) × (is_strip_dirty object.changes.now j ≡ false)
    unmet = met.met j low (ap is_some none)

    -- so it has no record with a block, if it is looked at
    pub unmet_left : is_strip_replaced object.is_long object.changes.now j ≡ true → has_record_left object.is_long object.changes.now was j ≡ false
    unmet_left replaced = none_between (λ k. has_block_after (kept_state object.is_long object.changes.now j k) (has_address (was.record_at j k))) 0 pointer_count
        (λ k from to. clear (kept_state object.is_long object.changes.now j k) (was.record_at j k)
        (kept-dirty object.is_long object.changes.now j k (unwritten_record object.changes.now j k (omega (arith, to)) unmet.1))
        (told_none (was.strip j) _ k (unmet_none object read j low unmet.0 unmet.1 replaced)))
      where
        clear : (state : RecordState) (p : Pointer) → is_dirty state ≡ false → p ≡ no_pointer → has_block_after state (has_address p) ≡ false
        clear Unchanged p clean is = ap has_address is
        clear Dirty p clean is = absurd (true≢false clean)
        clear Hole p clean is = refl

    -- and its indirect block has become what it was
    pub unmet_strip : (s : Progress) (n : ℕ) (records : ℕ → Pointer) → IsStripPlanned s n j records (strip_state object.is_long object.changes.now was j) (was.strip j) (was.strip j)
    unmet_strip s n records = elim (cases_Bool (is_strip_replaced object.is_long object.changes.now j)) [
      | inr stays ↦
          let state : strip_state object.is_long object.changes.now was j ≡ Unchanged =
          ap (λ (b : Bool). state_above b (may_have_blocks object.is_long object.changes.now.is_changed j && has_record_left object.is_long object.changes.now was j)) stays in
          subst (λ (x : RecordState). IsStripPlanned s n j records x (was.strip j) (was.strip j)) (sym state) refl
      | inl replaced ↦
          let state : strip_state object.is_long object.changes.now was j ≡ Hole =
          (λ x. state_above (replaced x) (may_have_blocks object.is_long object.changes.now.is_changed j && unmet_left replaced x))
          ∙ ap (λ (b : Bool). state_above true b) (and-false (may_have_blocks object.is_long object.changes.now.is_changed j)) in
          let nothing = unmet_none object read j low unmet.0 unmet.1 replaced in
          subst (λ (x : RecordState). IsStripPlanned s n j records x (was.strip j) (was.strip j)) (sym state) (record { none = nothing; freed = λ there. absurd (there nothing) })
    ]

  -- the strip is among them: its indirect block has become what its object's changes say
  module _ (s t : Progress) (bytes : List ℕ) (j : ℕ) (low : j < pointer_count) (v : Vec Pointer) (there : records_among strips j ≡ Some v) (long : length v.items ≡ pointer_count)
      (placed : (k : ℕ) → k < pointer_count → IsRecordPlanned s object.id.0 j k bytes (kept_state object.is_long object.changes.now j k) (was.record_at j k) (pointer_of_list v.items k)) where
    pub met_state : state_over_records object j v.items ≡ strip_state object.is_long object.changes.now was j
    met_state = indirect-told s object j bytes v.items long placed

    pub met_strip : (pointer : Pointer) → IsStripPlanned t object.id.0 j (pointer_of_list v.items) (state_over_records object j v.items) (was.strip j) pointer → IsStripPlanned t object.id.0 j (pointer_of_list v.items) (strip_state object.is_long object.changes.now was j) (was.strip j) pointer
    met_strip pointer made = subst (λ (x : RecordState). IsStripPlanned t object.id.0 j (pointer_of_list v.items) x (was.strip j) pointer) met_state made

    -- If its indirect block is gone, none of its records has a pointer.
    pub met_none : (state : RecordState) (pointer : Pointer) → strip_state object.is_long object.changes.now was j ≡ state → IsStripPlanned t object.id.0 j (pointer_of_list v.items) state (was.strip j) pointer → (pointer.address == 0) ≡ true
        → (k : ℕ) → k < pointer_count → pointer_of_list v.items k ≡ no_pointer
    met_none Dirty pointer is made zero_is k k_low =
        let area = made.1.in_area.2 in
        let address = eqb-true pointer.address 0 zero_is in
        absurd (omega (arith, area, address))
    met_none Unchanged pointer is made zero_is k k_low =
        let stays = stays_of is in
        let kept : IsRecordPlanned s object.id.0 j k bytes Unchanged (was.record_at j k) (pointer_of_list v.items k) = rw (stays_unchanged object.is_long object.changes.now j k k_low stays) at (placed k k_low) in
        let address : ((was.strip j).address == 0) ≡ true = ap (λ (p : Pointer). p.address == 0) (sym made) ∙ zero_is in
        kept ∙ ap (λ (b : Bool). if b then no_pointer else pointer_of_list (strip_with object.old.now.indirects.items object.old.now.strips.entries [] j).1 k) address
      where
        stays_of : strip_state object.is_long object.changes.now was j ≡ Unchanged → is_strip_replaced object.is_long object.changes.now j ≡ false
        stays_of e = by (is_strip_replaced object.is_long object.changes.now j) (may_have_blocks object.is_long object.changes.now.is_changed j && has_record_left object.is_long object.changes.now was j) e
          where
            by : (touched left : Bool) → state_above touched left ≡ Unchanged → touched ≡ false
            by false left e = refl
            by true true e = absurd (let no : Dirty ≡ Unchanged = e in cc)
            by true false e = absurd (let no : Hole ≡ Unchanged = e in cc)
    met_none Hole pointer is made zero_is k k_low = by_state (kept_state object.is_long object.changes.now j k) refl (placed k k_low)
      where
        left_of : (touched left : Bool) → state_above touched left ≡ Hole → left ≡ false
        left_of true false e = refl
        left_of true true e = absurd (let no : Dirty ≡ Hole = e in cc)
        left_of false left e = absurd (let no : Unchanged ≡ Hole = e in cc)

        may_of : (b : Bool) (x y : RecordState) → (if b then x else Hole) ≡ y → (y ≡ Hole → ⊥) → b ≡ true
        may_of true x y e other = refl
        may_of false x y e other = absurd (other (sym e))

        nothing_left : (state : RecordState) → kept_state object.is_long object.changes.now j k ≡ state → (state ≡ Hole → ⊥) → has_block_after state (has_address (was.record_at j k)) ≡ false
        nothing_left state e other =
            let none = left_of (is_strip_replaced object.is_long object.changes.now j) (may_have_blocks object.is_long object.changes.now.is_changed j && has_record_left object.is_long object.changes.now was j) is in
            let may = may_of (may_have_blocks object.is_long object.changes.now.is_changed j) _ state e other in
            let left : has_record_left object.is_long object.changes.now was j ≡ false = sym (ap (λ (b : Bool). b && has_record_left object.is_long object.changes.now was j) may) ∙ none in
            sym (ap (λ (x : RecordState). has_block_after x (has_address (was.record_at j k))) e)
            ∙ none_passes_at (λ i. has_block_after (kept_state object.is_long object.changes.now j i) (has_address (was.record_at j i))) k k_low left

        old_none : has_address (was.record_at j k) ≡ false → was.record_at j k ≡ no_pointer
        old_none no_name = by ((was.strip j).address == 0) (records_among object.old.now.strips.entries j) (read.named j k low k_low) no_name
          where
            address_zero : (p : Pointer) → has_address p ≡ false → p.address ≡ 0
            address_zero p e = elim (cases_Bool (p.address == 0)) [ inl zero_is ↦ eqb-true p.address 0 zero_is | inr other ↦ absurd (true≢false (ap not (sym other) ∙ e)) ]

            by : (b : Bool) (o : Option (Vec Pointer)) → IfSome o (λ (x : Vec Pointer). (pointer_of_list x.items k).address ≡ 0 → pointer_of_list x.items k ≡ no_pointer)
                → has_address (if b then no_pointer else pointer_of_list (option_map_or (λ (x : Vec Pointer). x.items) o []) k) ≡ false
                → (if b then no_pointer else pointer_of_list (option_map_or (λ (x : Vec Pointer). x.items) o []) k) ≡ no_pointer
            by true o named e = refl
            by false None named e = refl
            by false (Some x) named e = named (address_zero (pointer_of_list x.items k) e)

        by_state : (state : RecordState) → kept_state object.is_long object.changes.now j k ≡ state → IsRecordPlanned s object.id.0 j k bytes state (was.record_at j k) (pointer_of_list v.items k) → pointer_of_list v.items k ≡ no_pointer
        by_state Hole e gone = gone.none
        by_state Dirty e h = absurd (true≢false (nothing_left Dirty e (λ no. let bad : Dirty ≡ Hole = no in cc)))
        by_state Unchanged e same = same ∙ old_none (nothing_left Unchanged e (λ no. let bad : Unchanged ≡ Hole = no in cc))

-- what is told of places by pointers that are the same
pub strip_fits : (s : Progress) (n j : ℕ) (f g : ℕ → Pointer) (state : RecordState) (was pointer : Pointer) → ((k : ℕ) → k < pointer_count → f k ≡ g k) → IsStripPlanned s n j f state was pointer → IsStripPlanned s n j g state was pointer
strip_fits s n j f g Unchanged before pointer same h = h
strip_fits s n j f g Dirty before pointer same h = (h.0, h.1, λ k low. h.2 k low ∙ same k low)
strip_fits s n j f g Hole before pointer same h = h

pub top_fits : (s : Progress) (n : ℕ) (f g : ℕ → Pointer) (state : RecordState) (was pointer : Pointer) → ((k : ℕ) → k < pointer_count → f k ≡ g k) → IsTopPlanned s n f state was pointer → IsTopPlanned s n g state was pointer
top_fits s n f g Unchanged before pointer same h = h
top_fits s n f g Dirty before pointer same h = (h.0, h.1, λ k low. h.2 k low ∙ same k low)
top_fits s n f g Hole before pointer same h = h

once_wider : (old new : List ℕ) (P Q : ℕ → Type 0) → ((address : ℕ) → P address → Q address) → FreesOnce old new P → FreesOnce old new Q
once_wider old new P Q wider once fresh = once (λ address of. fresh address (wider address of))

frees_wider : (old new : List ℕ) (P Q : ℕ → Type 0) → ((address : ℕ) → P address → Q address) → FreesFrom old new P → FreesFrom old new Q
frees_wider old new P Q wider frees address among = elim (frees address among) [ inl before ↦ inl before | inr of ↦ inr (wider address of) ]

-- A strip whose indirect block stays has no record to write, and was read if the plan goes over it.
module _ (object : ChangedObject) (j : ℕ) (stays : is_strip_replaced object.is_long object.changes.now j ≡ false) where
  stays_clean : is_strip_dirty object.changes.now j ≡ false
  stays_clean = none_between (λ k. is_dirty (state_at object.changes.now (record_of_strip j k))) 0 pointer_count
      (λ k from to. ap is_dirty (untouched_record object.changes.now j k (omega (arith, to)) (stays-parts object.is_long (is_strip_touched object.changes.now j) stays).1))

  stays_read : (is_some (records_among object.old.now.strips.entries j) || is_strip_dirty object.changes.now j) ≡ true → is_some (records_among object.old.now.strips.entries j) ≡ true
  stays_read over = elim (or_cases (is_some (records_among object.old.now.strips.entries j)) (is_strip_dirty object.changes.now j) over) [ inl there ↦ there | inr dirty ↦ absurd (false≢true (sym stays_clean ∙ dirty)) ]

-- which indirect blocks are written is what the changes say
pub marks_told : (free : FreeSpace) (object : ChangedObject) (read : IsMapRead object) (bytes : List ℕ) (told : List (ℕ × (Pointer × List Pointer))) (strips : List (ℕ × Vec Pointer)) (met : AreMet object pointer_count strips)
    (p0 p1 : Planner) (below : PlansStrips free object bytes p0 p1 strips) (j : ℕ) → j < pointer_count → (o : Option (Vec Pointer)) → records_among strips j ≡ o
    → is_indirect_made object strips j ≡ is_indirect_needed object.is_long object.changes.now (pointers_in told object.old.now) j
marks_told free object read bytes told strips met p0 p1 below j low o is = mark o is ∙ ap is_dirty (sym (strip-state-read object read told j low))
  where
    made_mark : Option (Vec Pointer) → Bool
    made_mark o = option_map_or (λ (v : Vec Pointer). is_dirty (state_over_records object j v.items)) o false

    mark : (o : Option (Vec Pointer)) → records_among strips j ≡ o → is_indirect_made object strips j ≡ is_dirty (strip_state object.is_long object.changes.now (old_in object) j)
    mark (Some v) there =
        let whole : vec_len v ≡ pointer_count = rw there at (met.whole j) in
        let long : length v.items ≡ pointer_count = omega (arith, whole, v.ok.0) in
        ap made_mark there ∙ ap is_dirty (indirect-told (progress_of p1) object j bytes v.items long
        (λ k k_low. subst (λ (p : Pointer). IsRecordPlanned (progress_of p1) object.id.0 j k bytes (kept_state object.is_long object.changes.now j k) ((old_in object).record_at j k) p)
        (ap (λ (o : Option (Vec Pointer)). option_map_or (λ (x : Vec Pointer). pointer_of_list x.items k) o ((old_in object).record_at j k)) there) (below.planned j low k k_low)))
    mark None none = ap made_mark none ∙ sym (dirty_above (is_strip_replaced object.is_long object.changes.now j) (may_have_blocks object.is_long object.changes.now.is_changed j && has_record_left object.is_long object.changes.now (old_in object) j)
        ∙ clear (is_strip_replaced object.is_long object.changes.now j) refl)
      where
        clear : (b : Bool) → is_strip_replaced object.is_long object.changes.now j ≡ b → (b && (may_have_blocks object.is_long object.changes.now.is_changed j && has_record_left object.is_long object.changes.now (old_in object) j)) ≡ false
        clear false e = refl
        clear true e = (λ x. may_have_blocks object.is_long object.changes.now.is_changed j && unmet_left object read strips met j low none e x) ∙ and-false (may_have_blocks object.is_long object.changes.now.is_changed j)

pub made_count : (free : FreeSpace) (object : ChangedObject) (read : IsMapRead object) (bytes : List ℕ) (told : List (ℕ × (Pointer × List Pointer))) (strips : List (ℕ × Vec Pointer)) (met : AreMet object pointer_count strips)
    (p0 p1 : Planner) (below : PlansStrips free object bytes p0 p1 strips)
    → count_where (is_indirect_made object strips) pointer_count ≡ count_where (is_indirect_needed object.is_long object.changes.now (pointers_in told object.old.now)) pointer_count
made_count free object read bytes told strips met p0 p1 below = count_same (is_indirect_made object strips) (is_indirect_needed object.is_long object.changes.now (pointers_in told object.old.now)) pointer_count
    (λ j low. marks_told free object read bytes told strips met p0 p1 below j low (records_among strips j) refl)

module _ (free : FreeSpace) (object : ChangedObject) (read : IsMapRead object) (bytes : List ℕ) (told : List (ℕ × (Pointer × List Pointer))) (strips : List (ℕ × Vec Pointer)) (met : AreMet object pointer_count strips)
    (p0 p1 p2 : Planner) (indirects : List Pointer) (count : length indirects ≡ pointer_count) (below : PlansStrips free object bytes p0 p1 strips) (middle : PlansIndirects free object strips p1 p2 indirects) where
  abbrev n : ℕ
  n = object.id.0

  abbrev old : ObjectPointers
  old = pointers_in told object.old.now

  abbrev read_old : ObjectPointers
  read_old = old_in object

  long_of : (v : Vec Pointer) (j : ℕ) → records_among strips j ≡ Some v → length v.items ≡ pointer_count
  long_of v j there = let whole : vec_len v ≡ pointer_count = rw there at (met.whole j) in omega (arith, whole, v.ok.0)

  with_there : (w : ObjectPointers) (j k : ℕ) (v : Vec Pointer) → records_among strips j ≡ Some v → records_with w strips j k ≡ pointer_of_list v.items k
  with_there w j k v there = ap (λ (o : Option (Vec Pointer)). option_map_or (λ (x : Vec Pointer). pointer_of_list x.items k) o (w.record_at j k)) there

  with_none : (w : ObjectPointers) (j k : ℕ) → records_among strips j ≡ None → records_with w strips j k ≡ w.record_at j k
  with_none w j k none = ap (λ (o : Option (Vec Pointer)). option_map_or (λ (x : Vec Pointer). pointer_of_list x.items k) o (w.record_at j k)) none

  placed : (j : ℕ) (v : Vec Pointer) → j < pointer_count → records_among strips j ≡ Some v → (k : ℕ) → k < pointer_count
      → IsRecordPlanned (progress_of p1) n j k bytes (kept_state object.is_long object.changes.now j k) (read_old.record_at j k) (pointer_of_list v.items k)
  placed j v low there k k_low = subst (λ (p : Pointer). IsRecordPlanned (progress_of p1) n j k bytes (kept_state object.is_long object.changes.now j k) (read_old.record_at j k) p) (with_there read_old j k v there) (below.planned j low k k_low)

  -- the indirect block of a strip has become what the changes say, over the records after
  made : (j : ℕ) → j < pointer_count → (o : Option (Vec Pointer)) → records_among strips j ≡ o
      → IsStripPlanned (progress_of p2) n j (records_with read_old strips j) (strip_state object.is_long object.changes.now read_old j) (read_old.strip j) (pointer_of_list indirects j)
  made j low None none =
      let is : pointer_of_list indirects j ≡ read_old.strip j = subst (λ (o : Option (Vec Pointer)). MadeBy p2 object j o (pointer_of_list indirects j)) none (middle.planned j low) in
      subst (λ (p : Pointer). IsStripPlanned (progress_of p2) n j (records_with read_old strips j) (strip_state object.is_long object.changes.now read_old j) (read_old.strip j) p) (sym is)
      (unmet_strip object read strips met j low none (progress_of p2) n (records_with read_old strips j))
  made j low (Some v) there =
      let of = subst (λ (o : Option (Vec Pointer)). MadeBy p2 object j o (pointer_of_list indirects j)) there (middle.planned j low) in
      strip_fits (progress_of p2) n j (pointer_of_list v.items) (records_with read_old strips j) (strip_state object.is_long object.changes.now read_old j) (read_old.strip j) (pointer_of_list indirects j)
      (λ k k_low. sym (with_there read_old j k v there))
      (met_strip object read strips met (progress_of p1) (progress_of p2) bytes j low v there (long_of v j there) (placed j v low there) (pointer_of_list indirects j) of)

  -- in one level there is nothing but the first strip
  short_replaced : object.is_long ≡ false → (j : ℕ) → is_strip_replaced object.is_long object.changes.now j ≡ true
  short_replaced short j = ap (λ (b : Bool). not (b && not (is_strip_touched object.changes.now j))) short

  short_may : object.is_long ≡ false → (j : ℕ) → (j == 0) ≡ false → may_have_blocks object.is_long object.changes.now.is_changed j ≡ false
  short_may short j later = ap (λ (b : Bool). may_have_blocks b object.changes.now.is_changed j) short ∙ later_none object.changes.now.is_changed j later

  short_gone : object.is_long ≡ false → (j : ℕ) → j < pointer_count → (j == 0) ≡ false → pointer_of_list indirects j ≡ no_pointer
  short_gone short j low later =
      let state : strip_state object.is_long object.changes.now read_old j ≡ Hole =
      (λ x. state_above (short_replaced short j x) (short_may short j later x && has_record_left object.is_long object.changes.now read_old j)) in
      let gone : IsStripPlanned (progress_of p2) n j (records_with read_old strips j) Hole (read_old.strip j) (pointer_of_list indirects j) = rw state at (made j low (records_among strips j) refl) in
      gone.none

  -- its top, and which indirect blocks are written, are what the changes say
  pub top_state_is : state_over_indirects object indirects ≡ top_state object.is_long object.changes.now old
  top_state_is =
      ap (λ (b : Bool). state_above true ((object.is_long && object.changes.now.is_changed) && b))
      (any-told (is_strip_left object.is_long object.changes.now read_old) indirects count
      (λ j low. become-names_block (progress_of p2) (Indirect (strip_number n j)) (strip_state object.is_long object.changes.now read_old j) (read_old.strip j) (pointer_of_list indirects j) _ (made j low (records_among strips j) refl)))
      ∙ sym (top-state-read object read told)

  indirect_marks : (j : ℕ) → j < pointer_count → is_indirect_made object strips j ≡ is_indirect_needed object.is_long object.changes.now old j
  indirect_marks j low = marks_told free object read bytes told strips met p0 p1 below j low (records_among strips j) refl

  module _ (p3 : Planner) (top : Pointer) (e : ObjectEntry) (levels : object.is_long ≡ is_long_size e.length)
      (names : e.pointer ≡ (if object.is_long then top else pointer_of_list indirects 0)) (tells : e.strips.value ≡ strips_with indirects strips told) (above : PlansTop free object indirects p2 p3 top) where
    abbrev now : ObjectPointers
    now = pointers_of_entry e

    pub strip_is : (j : ℕ) → j < pointer_count → pointer_of_list indirects j ≡ now.strip j
    strip_is j low = elim (cases_Bool object.is_long) [
      | inl long ↦ sym (entry_strip e object.is_long levels top indirects strips told names tells long j low)
      | inr short ↦ elim (cases_Bool (j == 0)) [
        | inl first ↦ let zero_is : j ≡ 0 = eqb-true j 0 first in rw zero_is (sym (entry_first e object.is_long levels top indirects strips told names tells short))
        | inr later ↦ short_gone short j low later ∙ sym (entry_no_strip e object.is_long levels top indirects strips told names tells short j later)
      ]
    ]

    -- the record of a strip as it is told
    told_is : (j k : ℕ) → j < pointer_count → k < pointer_count → (o : Option (Vec Pointer)) → records_among strips j ≡ o → records_with old strips j k ≡ told_record (strip_with indirects strips told j) k
    told_is j k low k_low None none =
        let is : pointer_of_list indirects j ≡ read_old.strip j = subst (λ (o : Option (Vec Pointer)). MadeBy p2 object j o (pointer_of_list indirects j)) none (middle.planned j low) in
        let unread = none_there (records_among object.old.now.strips.entries j) (met.met j low (ap is_some none)).0 in
        with_none old j k none ∙ (λ x. told_record (sym is x, option_map_or (λ (v : Vec Pointer). v.items) (unread x) (strip_in told j).1) k)
        ∙ sym (ap (λ (o : Option (Vec Pointer)). told_record (pointer_of_list indirects j, option_map_or (λ (v : Vec Pointer). v.items) o (strip_in told j).1) k) none)
    told_is j k low k_low (Some v) there =
        with_there old j k v there ∙ by ((pointer_of_list indirects j).address == 0) refl
        ∙ sym (ap (λ (o : Option (Vec Pointer)). told_record (pointer_of_list indirects j, option_map_or (λ (x : Vec Pointer). x.items) o (strip_in told j).1) k) there)
      where
        by : (b : Bool) → ((pointer_of_list indirects j).address == 0) ≡ b → pointer_of_list v.items k ≡ (if b then no_pointer else pointer_of_list v.items k)
        by false is = refl
        by true is = met_none object read strips met (progress_of p1) (progress_of p2) bytes j low v there (long_of v j there) (placed j v low there) (strip_state object.is_long object.changes.now read_old j) (pointer_of_list indirects j) refl
            (strip_fits (progress_of p2) n j (records_with read_old strips j) (pointer_of_list v.items) (strip_state object.is_long object.changes.now read_old j) (read_old.strip j) (pointer_of_list indirects j)
            (λ i i_low. with_there read_old j i v there) (made j low (Some v) there)) is k k_low

    pub record_is : (j k : ℕ) → j < pointer_count → k < pointer_count → records_with old strips j k ≡ now.record_at j k
    record_is j k low k_low = elim (cases_Bool object.is_long) [
      | inl long ↦ told_is j k low k_low (records_among strips j) refl ∙ sym (entry_record e object.is_long levels top indirects strips told names tells long j k low)
      | inr short ↦ elim (cases_Bool (j == 0)) [
        | inl first ↦
            let zero_is : j ≡ 0 = eqb-true j 0 first in
            told_is j k low k_low (records_among strips j) refl
            ∙ subst (λ (i : ℕ). told_record (strip_with indirects strips told i) k ≡ now.record_at i k) (sym zero_is) (sym (entry_first_record e object.is_long levels top indirects strips told names tells short k))
        | inr later ↦ none_at short later (records_among strips j) refl ∙ sym (entry_no_record e object.is_long levels top indirects strips told names tells short j k later)
      ]
    ]
      where
        none_at : object.is_long ≡ false → (j == 0) ≡ false → (o : Option (Vec Pointer)) → records_among strips j ≡ o → records_with old strips j k ≡ no_pointer
        none_at short later None none =
            let unmet = met.met j low (ap is_some none) in
            with_none old j k none ∙ replaced_same object read told j k low (short_replaced short j) ∙ told_none (read_old.strip j) _ k (unmet_none object read j low unmet.0 unmet.1 (short_replaced short j))
        none_at short later (Some v) there =
            let state : kept_state object.is_long object.changes.now j k ≡ Hole = ap (λ (b : Bool). if b then state_at object.changes.now (record_of_strip j k) else Hole) (short_may short j later) in
            let gone : IsRecordPlanned (progress_of p1) n j k bytes Hole (read_old.record_at j k) (pointer_of_list v.items k) = rw state at (placed j v low there k k_low) in
            with_there old j k v there ∙ gone.none

    pub top_is : top ≡ now.top
    top_is = elim (cases_Bool object.is_long) [
      | inl long ↦ sym (entry_top e object.is_long levels top indirects strips told names tells long)
      | inr short ↦
          let state : state_over_indirects object indirects ≡ Hole = ap (λ (b : Bool). state_above true ((b && object.changes.now.is_changed) && list_any has_address indirects)) short in
          let gone : IsTopPlanned (progress_of p3) n (pointer_of_list indirects) Hole read_old.top top = rw state at above.planned in
          gone.none ∙ sym (entry_no_top e object.is_long levels top indirects strips told names tells short)
    ]

    -- what was read of a record that changes is what it was
    record_planned : (j k : ℕ) → j < pointer_count → k < pointer_count → IsRecordPlanned (progress_of p1) n j k bytes (kept_state object.is_long object.changes.now j k) (old.record_at j k) (records_with old strips j k)
    record_planned j k low k_low = elim (cases_Bool (is_strip_replaced object.is_long object.changes.now j)) [
      | inl replaced ↦
          subst (λ (p : Pointer). IsRecordPlanned (progress_of p1) n j k bytes (kept_state object.is_long object.changes.now j k) p (option_map_or (λ (v : Vec Pointer). pointer_of_list v.items k) (records_among strips j) p))
          (sym (replaced_same object read told j k low replaced)) (below.planned j low k k_low)
      | inr stays ↦ subst (λ (state : RecordState). IsRecordPlanned (progress_of p1) n j k bytes state (old.record_at j k) (records_with old strips j k)) (sym (stays_unchanged object.is_long object.changes.now j k k_low stays))
          (stay stays (records_among strips j) refl)
    ]
      where
        stay : is_strip_replaced object.is_long object.changes.now j ≡ false → (o : Option (Vec Pointer)) → records_among strips j ≡ o → records_with old strips j k ≡ old.record_at j k
        stay stays None none = with_none old j k none
        stay stays (Some v) there =
            let kept : IsRecordPlanned (progress_of p1) n j k bytes Unchanged (read_old.record_at j k) (pointer_of_list v.items k) = rw (stays_unchanged object.is_long object.changes.now j k k_low stays) at (placed j v low there k k_low) in
            with_there old j k v there ∙ kept ∙ sym (read_same object read told j k (stays_read object j stays (met.over j (ap is_some there))))

    pub object_planned : IsObjectPlanned (progress_of p3) n bytes object.is_long object.changes.now old now
    object_planned = record {
      records = λ j low k k_low. record_stays n j k bytes (kept_state object.is_long object.changes.now j k) (old.record_at j k) (now.record_at j k) (goes_twice middle.goes above.goes)
          (subst (λ (p : Pointer). IsRecordPlanned (progress_of p1) n j k bytes (kept_state object.is_long object.changes.now j k) (old.record_at j k) p) (record_is j k low k_low) (record_planned j k low k_low));
      strips = λ j low. strip_at j low (records_among strips j) refl;
      top = subst (λ (p : Pointer). IsTopPlanned (progress_of p3) n now.strip (top_state object.is_long object.changes.now old) old.top p) top_is
          (top_fits (progress_of p3) n (pointer_of_list indirects) now.strip (top_state object.is_long object.changes.now old) old.top top strip_is
          (subst (λ (state : RecordState). IsTopPlanned (progress_of p3) n (pointer_of_list indirects) state old.top top) top_state_is above.planned));
    }
      where
        -- over the records after, if it is written
        over_now : (j : ℕ) → j < pointer_count → (o : Option (Vec Pointer)) → records_among strips j ≡ o → (state : RecordState) → strip_state object.is_long object.changes.now read_old j ≡ state
            → IsStripPlanned (progress_of p2) n j (records_with read_old strips j) state (read_old.strip j) (pointer_of_list indirects j) → IsStripPlanned (progress_of p2) n j (now.record_at j) state (read_old.strip j) (pointer_of_list indirects j)
        over_now j low o is Unchanged state h = h
        over_now j low o is Hole state h = h
        over_now j low None none Dirty state h = absurd (not_dirty (cases_Bool (is_strip_replaced object.is_long object.changes.now j)))
          where
            left_of : (touched left : Bool) → state_above touched left ≡ Dirty → (touched ≡ true) × (left ≡ true)
            left_of true true x = (refl, refl)
            left_of true false x = absurd (let no : Hole ≡ Dirty = x in cc)
            left_of false left x = absurd (let no : Unchanged ≡ Dirty = x in cc)

            not_dirty : (is_strip_replaced object.is_long object.changes.now j ≡ true) ⊎ (is_strip_replaced object.is_long object.changes.now j ≡ false) → ⊥
            not_dirty which =
                let both = left_of (is_strip_replaced object.is_long object.changes.now j) (may_have_blocks object.is_long object.changes.now.is_changed j && has_record_left object.is_long object.changes.now read_old j) state in
                let left = (and_parts (may_have_blocks object.is_long object.changes.now.is_changed j) (has_record_left object.is_long object.changes.now read_old j) both.1).1 in
                false≢true (sym (unmet_left object read strips met j low none both.0) ∙ left)
        over_now j low (Some v) there Dirty state h = strip_fits (progress_of p2) n j (records_with read_old strips j) (now.record_at j) Dirty (read_old.strip j) (pointer_of_list indirects j)
            (λ k k_low. with_there read_old j k v there ∙ sym (with_there old j k v there) ∙ record_is j k low k_low) h

        strip_at : (j : ℕ) → j < pointer_count → (o : Option (Vec Pointer)) → records_among strips j ≡ o
            → IsStripPlanned (progress_of p3) n j (now.record_at j) (strip_state object.is_long object.changes.now old j) (old.strip j) (now.strip j)
        strip_at j low o is =
            subst (λ (p : Pointer). IsStripPlanned (progress_of p3) n j (now.record_at j) (strip_state object.is_long object.changes.now old j) (old.strip j) p) (strip_is j low)
            (subst (λ (state : RecordState). IsStripPlanned (progress_of p3) n j (now.record_at j) state (old.strip j) (pointer_of_list indirects j)) (sym (strip-state-read object read told j low))
            (become_stays (Indirect (strip_number n j)) (strip_state object.is_long object.changes.now read_old j) (read_old.strip j) (pointer_of_list indirects j) _ above.goes
            (over_now j low o is (strip_state object.is_long object.changes.now read_old j) refl (made j low o is))))

    -- what comes back is of the pointers that the object had
    strip_told : (address : ℕ) → IsOfStrip object.is_long object.changes.now read_old pointer_count address → IsOfStrip object.is_long object.changes.now old pointer_count address
    strip_told address of = record {
      strip = of.strip;
      low = of.low;
      record_is = record {
        index = of.record_is.index;
        low = of.record_is.low;
        replaced = of.record_is.replaced;
        is_of = elim (cases_Bool (is_strip_replaced object.is_long object.changes.now of.strip)) [
          | inl replaced ↦ subst (λ (p : Pointer). IsOf p address) (sym (replaced_same object read told of.strip of.record_is.index of.low replaced)) of.record_is.is_of
          | inr stays ↦ absurd (false≢true (sym (ap replaces (stays_unchanged object.is_long object.changes.now of.strip of.record_is.index of.record_is.low stays)) ∙ of.record_is.replaced))
        ];
      };
    }

    made_told : (address : ℕ) → IsOfMade object strips pointer_count address → IsOfIndirect object.is_long object.changes.now old pointer_count address
    made_told address of =
        let there = of.made.records_are in
        let state : state_over_records object of.strip of.made.records.items ≡ strip_state object.is_long object.changes.now old of.strip =
        met_state object read strips met (progress_of p1) (progress_of p2) bytes of.strip of.low of.made.records there (long_of of.made.records of.strip there) (placed of.strip of.made.records of.low there) ∙ sym (strip-state-read object read told of.strip of.low) in
        record { strip = of.strip; low = of.low; replaced = rw state at of.made.is_of.0; is_of = of.made.is_of.1 }

    pub object_frees : ObjectFrees p0.freed.items p3.freed.items object.is_long object.changes.now old
    object_frees =
        frees_more p0.freed.items p2.freed.items p3.freed.items Below (IsOf old.top) (IsOfMap object.is_long object.changes.now old) (λ address of. elim of [ inl record_is ↦ inl record_is | inr strip_of ↦ inr (inl strip_of) ]) (λ address here. inr (inr here))
        (frees_more p0.freed.items p1.freed.items p2.freed.items (IsOfStrip object.is_long object.changes.now read_old pointer_count) (IsOfMade object strips pointer_count) Below (λ address of. inl (strip_told address of)) (λ address of. inr (made_told address of))
        below.frees middle.frees)
        above.frees
      where
        Below : ℕ → Type 0
        Below address = IsOfStrip object.is_long object.changes.now old pointer_count address ⊎ IsOfIndirect object.is_long object.changes.now old pointer_count address

    -- pointers that were read are apart if those that are told are
    read_of : (j k address : ℕ) → j < pointer_count → IsOf (read_old.record_at j k) address → IsOf (old.record_at j k) address
    read_of j k address low of = by (records_among object.old.now.strips.entries j) refl
      where
        no_list : (b : Bool) → (if b then no_pointer else pointer_of_list [] k) ≡ no_pointer
        no_list true = refl
        no_list false = refl

        by : (o : Option (Vec Pointer)) → records_among object.old.now.strips.entries j ≡ o → IsOf (old.record_at j k) address
        by (Some v) there = subst (λ (p : Pointer). IsOf p address) (sym (read_same object read told j k (ap is_some there))) of
        by None none = absurd (of.0 (ap (λ (o : Option (Vec Pointer)). told_record (pointer_of_list object.old.now.indirects.items j, option_map_or (λ (v : Vec Pointer). v.items) o []) k) none
            ∙ no_list ((pointer_of_list object.old.now.indirects.items j).address == 0)))

    apart_read : IsApart old → IsApart read_old
    apart_read apart = record {
      records = λ i j k l address i_low j_low k_low l_low one two. apart.records i j k l address i_low j_low k_low l_low (read_of i k address i_low one) (read_of j l address j_low two);
      strips = apart.strips;
      strip_record = λ i j k address i_low j_low k_low one two. apart.strip_record i j k address i_low j_low k_low one (read_of j k address j_low two);
      top_record = λ j k address j_low k_low one two. apart.top_record j k address j_low k_low one (read_of j k address j_low two);
      top_strip = apart.top_strip;
    }

    pub object_comes_once : IsApart old → FreesOnce p0.freed.items p3.freed.items (IsOfMap object.is_long object.changes.now old)
    object_comes_once apart = object_once p0.freed.items p1.freed.items p2.freed.items p3.freed.items object.is_long object.changes.now old apart
        (frees_wider p0.freed.items p1.freed.items (IsOfStrip object.is_long object.changes.now read_old pointer_count) (IsOfStrip object.is_long object.changes.now old pointer_count) strip_told below.frees)
        (frees_wider p1.freed.items p2.freed.items (IsOfMade object strips pointer_count) (IsOfIndirect object.is_long object.changes.now old pointer_count) made_told middle.frees)
        (once_wider p0.freed.items p1.freed.items (IsOfStrip object.is_long object.changes.now read_old pointer_count) (IsOfStrip object.is_long object.changes.now old pointer_count) strip_told (below.once (apart_read apart)))
        (once_wider p1.freed.items p2.freed.items (IsOfMade object strips pointer_count) (IsOfIndirect object.is_long object.changes.now old pointer_count) made_told (middle.once (apart_read apart))) above.once

    pub object_is_used : ObjectUses (new_blocks_of p0) (new_blocks_of p3) now
    object_is_used = object_uses (new_blocks_of p0) (new_blocks_of p1) (new_blocks_of p2) (new_blocks_of p3) strips indirects top now below.uses middle.uses above.uses
        (λ j v low there k k_low. sym (with_there old j k v there) ∙ record_is j k low k_low) strip_is top_is

    -- the entry names its top or its first indirect block
    pub object_named : e.pointer ≡ (if object.is_long then now.top else now.strip 0)
    object_named = names ∙ (λ x. if object.is_long then top_is x else strip_is 0 (omega arith) x)

    -- a record that is written is among those that were placed
    dirty_record : (j k : ℕ) → j < pointer_count → k < pointer_count → is_dirty_in object j k ≡ true → records_with read_old strips j k ≡ now.record_at j k
    dirty_record j k low k_low dirty = elim (cases_Bool (is_strip_replaced object.is_long object.changes.now j)) [
      | inr stays ↦ absurd (false≢true (sym (ap is_dirty (stays_unchanged object.is_long object.changes.now j k k_low stays)) ∙ dirty))
      | inl replaced ↦ ap (λ (p : Pointer). option_map_or (λ (v : Vec Pointer). pointer_of_list v.items k) (records_among strips j) p) (sym (replaced_same object read told j k low replaced)) ∙ record_is j k low k_low
    ]

    -- the addresses that were taken, in their order
    pub object_adds : Adds (new_blocks_of p0) (new_blocks_of p3)
        (strip_addresses (is_dirty_in object) now.record_at pointer_count ++ addresses_where (is_indirect_needed object.is_long object.changes.now old) now.strip pointer_count ++ address_if (is_top_needed object.is_long object.changes.now old) now.top)
    object_adds = adds_twice (new_blocks_of p0) (new_blocks_of p2) (new_blocks_of p3) _ _ (adds_twice (new_blocks_of p0) (new_blocks_of p1) (new_blocks_of p2) _ _ below.adds middle.adds) above.adds
        ∙ (λ x. new_addresses (new_blocks_of p0) ++ (strip_addresses_marked (is_dirty_in object) (records_with read_old strips) now.record_at pointer_count dirty_record x
        ++ (addresses_same (is_indirect_made object strips) (is_indirect_needed object.is_long object.changes.now old) (pointer_of_list indirects) pointer_count indirect_marks
        ∙ addresses_equal (is_indirect_needed object.is_long object.changes.now old) (pointer_of_list indirects) now.strip pointer_count strip_is) x
        ++ address_if (ap is_dirty top_state_is x) (top_is x)))
