-- What a whole walk makes of a tree, place by place.
use Rattle.std.proofs.Common.{◌≡◌, ◌≢◌, ◌==◌, ℕ, suc, ◌+◌, ◌*◌, ◌/◌, ◌<◌, ◌≤◌, inl, inr, Bool, true, false, not, ◌&&◌, ◌||◌, ◌⊎◌, List, [], ◌∷◌, ◌++◌, length, map, take, replicate, Option, Some, None, refl, sym, ◌∙◌, ap, subst, arith}
use Rattle.std.specs.Prelude.{slice_index_or, is_some, option_map, unwrap_or, All, IfSome, if◌then◌else◌}
use Rattle.std.specs.List.{list_any}
use Rattle.std.specs.Option.{option_map_or}
use Rattle.std.specs.Ordering.{nat_cmp}
use Rattle.std.specs.FinMap as finite
use Rattle.std.specs.FinMap.{FinMap}
use Rattle.std.specs.FinSet.{FinSet}
use Rattle.std.proofs.lemmas.Bool.{and_parts, cases_Bool, cases_lt, eq-eqb, eqb-true, false_from_ne_true, false≢true, lt-ltb, ltb-true, or_parts, true≢false}
use Rattle.std.proofs.Math.Bool.{and-false}
use Rattle.std.proofs.lemmas.List.{drop_all, take_at}
use Rattle.std.proofs.lemmas.Option.{slice_get-get_or}
use Rattle.std.proofs.lemmas.Map.Entries.{place_from_lookup}
use Rattle.base.specs.declared.pointer.Pointer.{Pointer}
use Rattle.base.specs.declared.names.ObjectId.{ObjectId}
use Rattle.base.specs.formats.Limits.{object_count, max_length, one_level_length, pointer_count, record_size}
use Rattle.base.specs.formats.Fields.{no_pointer, entry_in, entry_present}
use Rattle.base.specs.formats.Geometry.{IsBlockAddress, block_address}
use Rattle.base.specs.formats.Blocks.{Frame}
use Rattle.base.specs.tree.Places.{Place, IsPlace, object_of_indirect, record_number, record_of_strip, strip_number, strip_of, strip_start}
use Rattle.base.specs.tree.Places.Place.{Root, Directory, Top, Indirect, Data}
use Rattle.base.specs.tree.Tree.{record_bytes}
use Rattle.base.specs.kept.PlacedTrees.{HasNonePast, IsEntryFor, IsLong, IsPlaced, IsShort, ArePlaced, NeedsNoTop, padded_record}
use Rattle.base.specs.kept.PlannedTrees.{IsNewAt, IsPlannedAt, IsTreePlan, IsZeroRecord, NewBlock, AreFreed, SameRecord}
use Rattle.base.specs.tree.Syncs.{has_block_after, is_unchanged, pointer_numbers}
use Rattle.base.specs.common.Rising.{rising}
use Rattle.base.proofs.common.KeptLists.{any_found, none_between}
use Rattle.base.proofs.common.Choices.{none_there}
use Rattle.base.proofs.tree.Strips.{first-strip, number-back, number-object, number-strip, one_level-length, record-low, strip-low, strip-object, strip-which}
use Rattle.base.proofs.tree.WrittenPlaces.{in-range}
use Rattle.space.specs.FreeSets.{free_from}
use Rattle.space.proofs.FreeLists.{free_from-0}
use Rattle.tree_blocks.specs.declared.tree.ObjectEntry.{ObjectEntry}
use Rattle.tree_blocks.specs.Pointers.{ObjectPointers, pointers_by, pointers_of_entry}
use Rattle.tree_plans.specs.declared.changes.ObjectChanges.{ObjectChanges}
use Rattle.tree_plans.specs.declared.planner.PlannedBlock.{PlannedBlock}
use Rattle.tree_plans.specs.Pointers.{OldTree, entry_of, old_pointers, planned_map, planned_pointer}
use Rattle.tree_plans.specs.Plans.{Progress, HasBecome, IsRecordPlanned, IsStripPlanned, IsTopPlanned, Goes, HasTaken, IsAmong, IsOf, IsOfMap, address_of, has_record_left, is_strip_left, is_strip_replaced, kept_state, new_block, replaces, state_above, strip_state, top_state}
use Rattle.tree_plans.specs.TreePlans.{IsEntryAfter}
use Rattle.tree_plans.specs.Walks.{IsEntryWritten, IsPlannedFrom, IsOfObject, IsDirectoryPlanned, IsRootPlanned, IsWalked, directory_state, has_object, has_objects, is_any_touched, is_directory_replaced, is_directory_touched, is_emptied, root_state}
use Rattle.tree_plans.specs.Changes.{AreBornBefore, AreChanges, AreTreePointers, HasNoByteFrom, IsCoveredBy, IsEntryPointer, has_address, has_two_levels, is_strip_touched, may_have_blocks, state_at, state_in}
use Rattle.base.specs.declared.record_state.RecordState.{RecordState}
use Rattle.base.specs.declared.record_state.RecordState.TheVariants.{Unchanged, Dirty, Hole}
use Rattle.tree_plans.proofs.Order.{data_before, entry-changed, entry-state, left-left, passes_at, strip_before}
use Rattle.tree_plans.proofs.Strips.{none_passes_at, stays-parts, stays_unchanged, untouched_record}

-- the addresses that a plan has taken
pub taken_lowest : (free : FinSet nat_cmp) (start : Progress) (blocks : List PlannedBlock) (next : ℕ) (freed : List ℕ) (frame : Frame) → start.next ≡ 0 → start.blocks ≡ []
    → Goes free start (record { next = next; blocks = map new_block blocks; freed = freed; frame = frame }) → map address_of blocks ≡ take (length blocks) (rising free)
taken_lowest free start blocks next freed frame at_first none g =
    let begun : HasTaken free start = ap (λ (l : List NewBlock). map (λ (b : NewBlock). b.address) l ++ free_from start.next free) none ∙ ap (λ (k : ℕ). free_from k free) at_first ∙ free_from-0 free in
    let taken : map (λ (b : NewBlock). b.address) (map new_block blocks) ++ free_from next free ≡ rising free = g.taken begun in
    let same = both blocks in
    let long : length (map address_of blocks) ≡ length blocks = as_many blocks in
    let whole : map address_of blocks ++ free_from next free ≡ rising free = rw same at taken in
    rw (← whole) (sym (take_at (map address_of blocks) (free_from next free) (length blocks) long))
  where
    both : (bs : List PlannedBlock) → map (λ (b : NewBlock). b.address) (map new_block bs) ≡ map address_of bs
    both [] = refl
    both (b ∷ bs) = ap (λ l. block_address b.index ∷ l) (both bs)

    as_many : (bs : List PlannedBlock) → length (map address_of bs) ≡ length bs
    as_many [] = refl
    as_many (b ∷ bs) = ap suc (as_many bs)

-- the pointers of an object that is planned, and of one that is not
planned_there : (maps : ℕ → ObjectPointers) (planned : List (ObjectId × ObjectEntry)) (n : ℕ) (m : ObjectEntry) → entry_of planned n ≡ Some m → planned_map maps planned n ≡ pointers_of_entry m
planned_there maps planned n m e = ap (λ (o : Option ObjectEntry). option_map_or pointers_of_entry o (maps n)) e

planned_not : (maps : ℕ → ObjectPointers) (planned : List (ObjectId × ObjectEntry)) (n : ℕ) → entry_of planned n ≡ None → planned_map maps planned n ≡ maps n
planned_not maps planned n e = ap (λ (o : Option ObjectEntry). option_map_or pointers_of_entry o (maps n)) e

-- no object of a directory that is not touched changes
untouched : (objects : List (ObjectId × ObjectChanges)) (d n : ℕ) → n / 63 ≡ d → is_directory_touched objects d ≡ false → entry_of objects n ≡ None
untouched [] d n e none = refl
untouched (o ∷ objects) d n e none =
    elim (n == o.0.0) as (λ t. (n == o.0.0) ≡ t → entry_of (o ∷ objects) n ≡ None) [
      | true ↦ λ is. let same : n ≡ o.0.0 = eqb-true n o.0.0 is in
          let here : ((o.0.0 / 63) == d) ≡ true = eq-eqb (o.0.0 / 63) d (rw (← same) e) in absurd (clash _ _ here none)
      | false ↦ λ is. rw is (untouched objects d n e (rest _ _ none))
    ] refl
  where
    clash : (a b : Bool) → a ≡ true → (a || b) ≡ false → ⊥
    clash a b e no_one = let h : (true || b) ≡ false = rw e at no_one in absurd (cc)

    rest : (a b : Bool) → (a || b) ≡ false → b ≡ false
    rest true b no_one = absurd (cc)
    rest false b no_one = no_one

-- a pointer that names no block
named_zero : (p : Pointer) → has_address p ≡ false → p.address ≡ 0
named_zero p e = elim (cases_Bool (p.address == 0)) as (λ _. p.address ≡ 0) [ inl is ↦ eqb-true p.address 0 is | inr other ↦ absurd (true≢false (ap not (sym other) ∙ e)) ]

-- a state above others that is known
above-unchanged : (touched left : Bool) → state_above touched left ≡ Unchanged → touched ≡ false
above-unchanged false left e = refl
above-unchanged true true e = absurd (let no : Dirty ≡ Unchanged = e in cc)
above-unchanged true false e = absurd (let no : Hole ≡ Unchanged = e in cc)

above-dirty : (touched left : Bool) → state_above touched left ≡ Dirty → left ≡ true
above-dirty true true e = refl
above-dirty true false e = absurd (let no : Hole ≡ Dirty = e in cc)
above-dirty false left e = absurd (let no : Unchanged ≡ Dirty = e in cc)

above-hole : (touched left : Bool) → state_above touched left ≡ Hole → left ≡ false
above-hole true true e = absurd (let no : Dirty ≡ Hole = e in cc)
above-hole true false e = refl
above-hole false left e = absurd (let no : Unchanged ≡ Hole = e in cc)

-- a record's state in a strip that may have blocks
may-unchanged : (b : Bool) (state : RecordState) → (if b then state else Hole) ≡ Unchanged → (b ≡ true) × (state ≡ Unchanged)
may-unchanged true state e = (refl, e)
may-unchanged false state e = absurd (let no : Hole ≡ Unchanged = e in cc)

may-dirty : (b : Bool) (state : RecordState) → (if b then state else Hole) ≡ Dirty → (b ≡ true) × (state ≡ Dirty)
may-dirty true state e = (refl, e)
may-dirty false state e = absurd (let no : Hole ≡ Dirty = e in cc)

may-hole : (b : Bool) (state : RecordState) → (if b then state else Hole) ≡ Hole → (b ≡ false) ⊎ (state ≡ Hole)
may-hole true state e = inr e
may-hole false state e = inl refl

not-dirty : {A : Type 0} (state : RecordState) → state ≡ Unchanged → state ≡ Hole → A
not-dirty state e f = absurd (let no : Unchanged ≡ Hole = sym e ∙ f in cc)

-- lengths and levels
is_long : (o : Option (List ℕ)) → has_two_levels o ≡ true → IsLong o
is_long None e = absurd (false≢true e)
is_long (Some bytes) e = ltb-true one_level_length (length bytes) e

is_short : (o : Option (List ℕ)) → has_two_levels o ≡ false → IsShort o
is_short None e = tt
is_short (Some bytes) e = elim (cases_lt one_level_length (length bytes)) [
  | inl longer ↦ absurd (true≢false (sym (lt-ltb one_level_length (length bytes) longer) ∙ e))
  | inr short ↦ short
]

-- a record past the first strip of an object of one level has no byte
past_zero : (j k : ℕ) (o : Option (List ℕ)) → IsShort o → j ≢ 0 → IsZeroRecord (record_of_strip j k) o
past_zero j k None short later = tt
past_zero j k (Some bytes) short later =
    let none : record_bytes (record_of_strip j k) bytes ≡ [] = ap (λ (l : List ℕ). take 4032 l) (drop_all (4032 * record_of_strip j k) bytes (omega (arith, short, later, one_level-length))) in
    none ∙ sym (ap (λ (l : List ℕ). replicate (length l) 0) none)

-- an entry as it is written is the object's
entry_for : (frame : Frame) → 1 < frame.version → (entry : List ℕ) (pointer top indirect : Pointer) (o : Option (List ℕ)) → IsEntryWritten entry pointer o → IsEntryPointer pointer top indirect o → (o ≡ None → indirect ≡ no_pointer)
    → IfSome o (λ bytes. length bytes ≤ max_length) → IsEntryFor frame entry top indirect o
entry_for frame second entry pointer top indirect None written names absent size = inl (written, absent refl)
entry_for frame second entry pointer top indirect (Some bytes) written names absent size = by (has_two_levels (Some bytes)) refl written.0 names
  where
    by : (b : Bool) → has_two_levels (Some bytes) ≡ b → entry_present entry ≡ (if b then 2 else 1) → pointer ≡ (if b then top else indirect) → IsEntryFor frame entry top indirect (Some bytes)
    by true e present is = inr (second, (present, written.1, is_long (Some bytes) e, size, written.2 ∙ is))
    by false e present is = inl (present, written.1, is_short (Some bytes) e, written.2 ∙ is)

some_touched : (n : ℕ) → not (n == 0) ≡ false → 0 < n → ⊥
some_touched n e positive = elim (n == 0) as (λ t. (n == 0) ≡ t → not t ≡ false → ⊥) [ true ↦ λ is _. let zero_is : n ≡ 0 = eqb-true n 0 is in omega arith | false ↦ λ _ no_one. absurd (cc) ] refl e

none_some : {A : Type 0} (o : Option A) → o ≡ None → is_some o ≡ true → ⊥
none_some None e there = absurd (cc)
none_some (Some a) e there = absurd (cc)

if_some : {A : Type 0} (P Q : A → Type 0) (o : Option A) → ((a : A) → o ≡ Some a → P a → Q a) → IfSome o P → IfSome o Q
if_some P Q None f p = p
if_some P Q (Some a) f p = f a refl p

module _ (s : Progress) (t : OldTree) (after : FinMap nat_cmp (List ℕ)) (objects : List (ObjectId × ObjectChanges)) (planned : List (ObjectId × ObjectEntry)) (directories : List Pointer) (root : Pointer)
    (w : IsWalked s t after objects planned directories root) where
  abbrev new : Place → Pointer
  new = pointers_by root directories (planned_map t.maps planned)

  abbrev two_levels : ℕ → Bool
  two_levels n = has_two_levels (finite.get after n)

  -- an object that operations are on is planned
  pub not_touched : (n : ℕ) → n < object_count → entry_of planned n ≡ None → entry_of objects n ≡ None
  not_touched n low none = go (entry_of objects n) refl
    where
      go : (o : Option ObjectChanges) → entry_of objects n ≡ o → o ≡ None
      go None e = refl
      go (Some changes) e =
          let p = place_from_lookup (λ (id : ObjectId). n == id.0) objects changes e in
          let same : n ≡ p.1.0 = eqb-true n p.1.0 p.3 in
          let there = w.objects_planned.all p.0 p.1 changes p.2 (rw (← same) low) in
          let none_there : is_some (entry_of planned n) ≡ true = rw (← same) at there in
          absurd (none_some (entry_of planned n) none none_there)

  -- the length of each object
  pub length_planned : (n : ℕ) → n < object_count → option_map_or (λ (m : ObjectEntry). m.length) (entry_of planned n) (t.lengths n)
      ≡ (if is_some (entry_of objects n) then option_map length (finite.get after n) else t.lengths n)
  length_planned n low = by (entry_of planned n) refl
    where
      after_them : Option ObjectChanges → Option ℕ
      after_them o = if is_some o then option_map length (finite.get after n) else t.lengths n

      by : (o : Option ObjectEntry) → entry_of planned n ≡ o → option_map_or (λ (m : ObjectEntry). m.length) o (t.lengths n) ≡ after_them (entry_of objects n)
      by None e = sym (ap after_them (not_touched n low e))
      by (Some m) e = let f = w.objects_planned.each n m e in f.length ∙ sym (ap after_them f.changes_are)

  -- the entry of each object that operations are on
  pub entry_made : (n : ℕ) (m : ObjectEntry) → entry_of planned n ≡ Some m → IsEntryAfter after objects n m
  entry_made n m e = let f = w.objects_planned.each n m e in record { low = f.low; touched = ap is_some f.changes_are; size = f.length }

  unchanged_there : (n r : ℕ) → n < object_count → entry_of planned n ≡ None → state_in objects n r ≡ Unchanged
  unchanged_there n r low none = ap (λ (o : Option ObjectChanges). option_map_or (λ (c : ObjectChanges). state_at c r) o Unchanged) (not_touched n low none)

  -- the pointers of an object by its strips
  none_at : (n j : ℕ) → n < object_count → entry_of planned n ≡ None → entry_of planned (object_of_indirect (strip_number n j)) ≡ None
  none_at n j low e = ap (λ (i : ℕ). entry_of planned i) (strip-object n j low) ∙ e

  data_kept : (n j k : ℕ) → n < object_count → entry_of planned n ≡ None → new (Data (strip_number n j) k) ≡ old_pointers t (Data (strip_number n j) k)
  data_kept n j k low e = ap (λ (o : ObjectPointers). o.record_at (strip_of (strip_number n j)) k) (planned_not t.maps planned (object_of_indirect (strip_number n j)) (none_at n j low e))

  indirect_kept : (n j : ℕ) → n < object_count → entry_of planned n ≡ None → new (Indirect (strip_number n j)) ≡ old_pointers t (Indirect (strip_number n j))
  indirect_kept n j low e = ap (λ (o : ObjectPointers). o.strip (strip_of (strip_number n j))) (planned_not t.maps planned (object_of_indirect (strip_number n j)) (none_at n j low e))

  top_kept : (n : ℕ) → entry_of planned n ≡ None → new (Top n) ≡ old_pointers t (Top n)
  top_kept n e = ap (λ (o : ObjectPointers). o.top) (planned_not t.maps planned n e)

  data_now : (n j k : ℕ) (m : ObjectEntry) → n < object_count → entry_of planned n ≡ Some m → new (Data (strip_number n j) k) ≡ (pointers_of_entry m).record_at j k
  data_now n j k m low e =
      ap (λ (i : ℕ). (planned_map t.maps planned i).record_at (strip_of (strip_number n j)) k) (strip-object n j low) ∙ ap (λ (i : ℕ). (planned_map t.maps planned n).record_at i k) (strip-which n j low)
      ∙ ap (λ (o : ObjectPointers). o.record_at j k) (planned_there t.maps planned n m e)

  indirect_now : (n j : ℕ) (m : ObjectEntry) → n < object_count → entry_of planned n ≡ Some m → new (Indirect (strip_number n j)) ≡ (pointers_of_entry m).strip j
  indirect_now n j m low e =
      ap (λ (i : ℕ). (planned_map t.maps planned i).strip (strip_of (strip_number n j))) (strip-object n j low) ∙ ap (λ (i : ℕ). (planned_map t.maps planned n).strip i) (strip-which n j low)
      ∙ ap (λ (o : ObjectPointers). o.strip j) (planned_there t.maps planned n m e)

  top_now : (n : ℕ) (m : ObjectEntry) → entry_of planned n ≡ Some m → new (Top n) ≡ (pointers_of_entry m).top
  top_now n m e = ap (λ (o : ObjectPointers). o.top) (planned_there t.maps planned n m e)

  top_was : (n : ℕ) (old : ObjectPointers) → t.maps n ≡ old → old_pointers t (Top n) ≡ old.top
  top_was n old e = ap (λ (o : ObjectPointers). o.top) e

  module _ (second : 1 < s.frame.version) (before : FinMap nat_cmp (List ℕ)) (covered : IsCoveredBy objects (old_pointers t) before after) (changes : AreChanges objects after) (whole : AreTreePointers objects t.below (old_pointers t) after) where
    abbrev Planned : Place → Type 0
    Planned = IsPlannedAt s.blocks s.frame (old_pointers t) new before after

    -- what is told of an object and of a record holds of the strip that has them
    moved : (P : ℕ → ℕ → Type 0) (n j : ℕ) → n < object_count → P n j → P (object_of_indirect (strip_number n j)) (strip_of (strip_number n j))
    moved P n j low p = subst (λ (i : ℕ). P i (strip_of (strip_number n j))) (sym (strip-object n j low)) (subst (λ (i : ℕ). P n i) (sym (strip-which n j low)) p)

    same_bytes : (n j k : ℕ) → n < object_count → j < pointer_count → k < pointer_count → state_in objects n (record_of_strip j k) ≡ Unchanged
        → SameRecord (old_pointers t (Data (strip_number n j) k)) (record_number (strip_number n j) k) (finite.get before (object_of_indirect (strip_number n j))) (finite.get after (object_of_indirect (strip_number n j)))
    same_bytes n j k low j_low k_low e = covered.records (strip_number n j) k (strip-low n j low j_low) k_low (moved (λ i l. state_in objects i (record_of_strip l k) ≡ Unchanged) n j low e)

    hole_bytes : (n j k : ℕ) (m : ObjectEntry) (f : IsPlannedFrom s t.maps after objects n m) → j < pointer_count → k < pointer_count → kept_state (two_levels n) f.changes j k ≡ Hole → IsZeroRecord (record_of_strip j k) (finite.get after n)
    hole_bytes n j k m f j_low k_low e = elim (may-hole (may_have_blocks (two_levels n) f.changes.is_changed j) (state_at f.changes (record_of_strip j k)) e) [
      | inr hole ↦ covered.holes n (record_of_strip j k) f.low (record-low j k j_low k_low) (entry-state objects (old_pointers t) after n f.changes f.changes_are (record_of_strip j k) ∙ hole)
      | inl none ↦ first_or_later (may_parts (two_levels n) (j == 0) f.changes.is_changed none)
    ]
      where
        may_parts : (a b c : Bool) → (a || (b && c)) ≡ false → (a ≡ false) × ((b ≡ false) ⊎ (c ≡ false))
        may_parts true b c e = absurd (true≢false e)
        may_parts false true c e = (refl, inr e)
        may_parts false false c e = (refl, inl refl)

        first_or_later : (two_levels n ≡ false) × (((j == 0) ≡ false) ⊎ (f.changes.is_changed ≡ false)) → IsZeroRecord (record_of_strip j k) (finite.get after n)
        first_or_later (short, inl later) = past_zero j k (finite.get after n) (is_short (finite.get after n) short) (λ zero_is. false≢true (sym later ∙ eq-eqb j 0 zero_is))
        first_or_later (short, inr made) = covered.holes n (record_of_strip j k) f.low (record-low j k j_low k_low)
            (changes.holes n (record_of_strip j k) f.low (record-low j k j_low k_low) (ap is_some f.changes_are) (inl (entry-changed objects (old_pointers t) after n f.changes f.changes_are ∙ made)))

    -- a record of an object that is planned
    record_planned : (n j k : ℕ) (m : ObjectEntry) (f : IsPlannedFrom s t.maps after objects n m) → j < pointer_count → k < pointer_count → entry_of planned n ≡ Some m
        → (state : RecordState) → kept_state (two_levels n) f.changes j k ≡ state
        → IsRecordPlanned s n j k (unwrap_or (finite.get after n) []) state (f.old.record_at j k) ((pointers_of_entry m).record_at j k) → Planned (Data (strip_number n j) k)
    record_planned n j k m f j_low k_low e Unchanged is same = inl (
      data_now n j k m f.low e ∙ same ∙ sym (data_before t n f.old f.low f.old_is j k),
      same_bytes n j k f.low j_low k_low
          (entry-state objects (old_pointers t) after n f.changes f.changes_are (record_of_strip j k) ∙ (may-unchanged (may_have_blocks (two_levels n) f.changes.is_changed j) (state_at f.changes (record_of_strip j k)) is).1),
    )
    record_planned n j k m f j_low k_low e Dirty is (payload, written, fits) =
        let dirty : state_in objects n (record_of_strip j k) ≡ Dirty =
        entry-state objects (old_pointers t) after n f.changes f.changes_are (record_of_strip j k) ∙ (may-dirty (may_have_blocks (two_levels n) f.changes.is_changed j) (state_at f.changes (record_of_strip j k)) is).1 in
        inr (inl (moved (λ i l. IfSome (finite.get after i) (λ bytes. (record_size * record_of_strip l k < length bytes)
        × IsNewAt s.blocks s.frame (Data (strip_number n j) k) (new (Data (strip_number n j) k)) (padded_record (record_of_strip l k) bytes))) n j f.low
        (if_some (λ (bytes : List ℕ). 4032 * record_of_strip j k < length bytes)
        (λ (bytes : List ℕ). (4032 * record_of_strip j k < length bytes) × IsNewAt s.blocks s.frame (Data (strip_number n j) k) (new (Data (strip_number n j) k)) (padded_record (record_of_strip j k) bytes)) (finite.get after n)
        (λ bytes there begins. (
          begins,
          subst (λ (p : Pointer). IsNewAt s.blocks s.frame (Data (strip_number n j) k) p (padded_record (record_of_strip j k) bytes)) (sym (data_now n j k m f.low e))
              (subst (λ (b : List ℕ). IsNewAt s.blocks s.frame (Data (strip_number n j) k) ((pointers_of_entry m).record_at j k) b) (fits ∙ ap (λ (o : Option (List ℕ)). padded_record (record_of_strip j k) (unwrap_or o [])) there) written.block),
        ))
        (changes.within n (record_of_strip j k) f.low (record-low j k j_low k_low) dirty))))
    record_planned n j k m f j_low k_low e Hole is gone =
        inr (inr (data_now n j k m f.low e ∙ gone.none, moved (λ i l. IsZeroRecord (record_of_strip l k) (finite.get after i)) n j f.low (hole_bytes n j k m f j_low k_low is)))

    data_planned : (n j k : ℕ) → n < object_count → j < pointer_count → k < pointer_count → (o : Option ObjectEntry) → entry_of planned n ≡ o → Planned (Data (strip_number n j) k)
    data_planned n j k low j_low k_low None e = inl (data_kept n j k low e, same_bytes n j k low j_low k_low (unchanged_there n (record_of_strip j k) low e))
    data_planned n j k low j_low k_low (Some m) e =
        let f = w.objects_planned.each n m e in
        record_planned n j k m f j_low k_low e (kept_state (two_levels n) f.changes j k) refl (f.planned.records j j_low k k_low)

    -- a record has no pointer, if none of its strip has a block
    record_none : (n j k : ℕ) (m : ObjectEntry) (f : IsPlannedFrom s t.maps after objects n m) → j < pointer_count → k < pointer_count → (may_have_blocks (two_levels n) f.changes.is_changed j && has_record_left (two_levels n) f.changes f.old j) ≡ false
        → (state : RecordState) → kept_state (two_levels n) f.changes j k ≡ state
        → IsRecordPlanned s n j k (unwrap_or (finite.get after n) []) state (f.old.record_at j k) ((pointers_of_entry m).record_at j k) → (pointers_of_entry m).record_at j k ≡ no_pointer
    record_none n j k m f j_low k_low none Hole is gone = gone.none
    record_none n j k m f j_low k_low none Unchanged is same =
        let may = (may-unchanged (may_have_blocks (two_levels n) f.changes.is_changed j) (state_at f.changes (record_of_strip j k)) is).0 in
        let left : has_record_left (two_levels n) f.changes f.old j ≡ false = sym (ap (λ (b : Bool). b && has_record_left (two_levels n) f.changes f.old j) may) ∙ none in
        let clear : has_block_after (kept_state (two_levels n) f.changes j k) (has_address (f.old.record_at j k)) ≡ false =
        none_passes_at (λ i. has_block_after (kept_state (two_levels n) f.changes j i) (has_address (f.old.record_at j i))) k k_low left in
        let no_name : has_address (f.old.record_at j k) ≡ false = sym (ap (λ (x : RecordState). has_block_after x (has_address (f.old.record_at j k))) is) ∙ clear in
        let was = data_before t n f.old f.low f.old_is j k in
        same ∙ sym was ∙ whole.named_records (strip_number n j) k (strip-low n j f.low j_low) k_low (ap (λ (p : Pointer). p.address) was ∙ named_zero (f.old.record_at j k) no_name)
    record_none n j k m f j_low k_low none Dirty is h =
        let may = (may-dirty (may_have_blocks (two_levels n) f.changes.is_changed j) (state_at f.changes (record_of_strip j k)) is).0 in
        let left : has_record_left (two_levels n) f.changes f.old j ≡ false = sym (ap (λ (b : Bool). b && has_record_left (two_levels n) f.changes f.old j) may) ∙ none in
        let clear : has_block_after (kept_state (two_levels n) f.changes j k) (has_address (f.old.record_at j k)) ≡ false =
        none_passes_at (λ i. has_block_after (kept_state (two_levels n) f.changes j i) (has_address (f.old.record_at j i))) k k_low left in
        absurd (true≢false (sym (ap (λ (x : RecordState). has_block_after x (has_address (f.old.record_at j k))) is) ∙ clear))

    -- an indirect block of an object that is planned
    strip_planned : (n j : ℕ) (m : ObjectEntry) (f : IsPlannedFrom s t.maps after objects n m) → j < pointer_count → entry_of planned n ≡ Some m → (state : RecordState) → strip_state (two_levels n) f.changes f.old j ≡ state
        → IsStripPlanned s n j ((pointers_of_entry m).record_at j) state (f.old.strip j) ((pointers_of_entry m).strip j) → Planned (Indirect (strip_number n j))
    strip_planned n j m f j_low e Unchanged is same =
        let stays = above-unchanged (is_strip_replaced (two_levels n) f.changes j) (may_have_blocks (two_levels n) f.changes.is_changed j && has_record_left (two_levels n) f.changes f.old j) is in
        inl (
          indirect_now n j m f.low e ∙ same ∙ sym (strip_before t n f.old f.low f.old_is j),
          λ k k_low.
              let state = stays_unchanged (two_levels n) f.changes j k k_low stays in
              let kept : IsRecordPlanned s n j k (unwrap_or (finite.get after n) []) Unchanged (f.old.record_at j k) ((pointers_of_entry m).record_at j k) = rw state at (f.planned.records j j_low k k_low) in
              data_now n j k m f.low e ∙ kept ∙ sym (data_before t n f.old f.low f.old_is j k),
        )
    strip_planned n j m f j_low e Dirty is (payload, written, fits) = inr (inl (
      payload,
      subst (λ (p : Pointer). IsNewAt s.blocks s.frame (Indirect (strip_number n j)) p payload) (sym (indirect_now n j m f.low e)) written.block,
      λ k k_low. fits k k_low ∙ sym (data_now n j k m f.low e),
    ))
    strip_planned n j m f j_low e Hole is gone =
        let none = above-hole (is_strip_replaced (two_levels n) f.changes j) (may_have_blocks (two_levels n) f.changes.is_changed j && has_record_left (two_levels n) f.changes f.old j) is in
        inr (inr (
          indirect_now n j m f.low e ∙ gone.none,
          λ k k_low. data_now n j k m f.low e ∙ record_none n j k m f j_low k_low none (kept_state (two_levels n) f.changes j k) refl (f.planned.records j j_low k k_low),
        ))

    indirect_planned : (n j : ℕ) → n < object_count → j < pointer_count → (o : Option ObjectEntry) → entry_of planned n ≡ o → Planned (Indirect (strip_number n j))
    indirect_planned n j low j_low None e = inl (indirect_kept n j low e, λ k k_low. data_kept n j k low e)
    indirect_planned n j low j_low (Some m) e =
        let f = w.objects_planned.each n m e in
        strip_planned n j m f j_low e (strip_state (two_levels n) f.changes f.old j) refl (f.planned.strips j j_low)

    -- a pointer that a place keeps, and that names no block, is none
    old_strip_none : (n j : ℕ) (old : ObjectPointers) → n < object_count → j < pointer_count → t.maps n ≡ old → has_address (old.strip j) ≡ false → old.strip j ≡ no_pointer
    old_strip_none n j old low j_low is no_name =
        let was = strip_before t n old low is j in
        sym was ∙ whole.named_strips (strip_number n j) (strip-low n j low j_low) (ap (λ (p : Pointer). p.address) was ∙ named_zero (old.strip j) no_name)

    strip_none : (n j : ℕ) (m : ObjectEntry) (f : IsPlannedFrom s t.maps after objects n m) → j < pointer_count → (state : RecordState) → has_block_after state (has_address (f.old.strip j)) ≡ false
        → IsStripPlanned s n j ((pointers_of_entry m).record_at j) state (f.old.strip j) ((pointers_of_entry m).strip j) → (pointers_of_entry m).strip j ≡ no_pointer
    strip_none n j m f j_low Unchanged clear same = same ∙ old_strip_none n j f.old f.low j_low f.old_is clear
    strip_none n j m f j_low Dirty clear h = absurd (true≢false clear)
    strip_none n j m f j_low Hole clear gone = gone.none

    -- a strip past the end of its object has no indirect block
    past_none : (n j : ℕ) (m : ObjectEntry) (f : IsPlannedFrom s t.maps after objects n m) → j < pointer_count → (bytes : List ℕ) → finite.get after n ≡ Some bytes → length bytes ≤ strip_start j
        → (state : RecordState) → strip_state (two_levels n) f.changes f.old j ≡ state → IsStripPlanned s n j ((pointers_of_entry m).record_at j) state (f.old.strip j) ((pointers_of_entry m).strip j)
        → (pointers_of_entry m).strip j ≡ no_pointer
    past_none n j m f j_low bytes there past Hole is gone = gone.none
    past_none n j m f j_low bytes there past Unchanged is same = elim (cases_Bool (has_address (f.old.strip j))) [
      | inr no_name ↦ same ∙ old_strip_none n j f.old f.low j_low f.old_is no_name
      | inl named ↦
          let stays = above-unchanged (is_strip_replaced (two_levels n) f.changes j) (may_have_blocks (two_levels n) f.changes.is_changed j && has_record_left (two_levels n) f.changes f.old j) is in
          let first : 0 < pointer_count = omega arith in
          let state = untouched_record f.changes j 0 first (stays-parts (two_levels n) (is_strip_touched f.changes j) stays).1 in
          let ends : HasNoByteFrom j (finite.get after n) = rw there past in
          let hole = whole.cut_off n j f.low j_low (ap is_some f.changes_are) (stays-parts (two_levels n) (is_strip_touched f.changes j) stays).0 ends (λ none. true≢false (sym named ∙ ap has_address (sym (strip_before t n f.old f.low f.old_is j) ∙ none))) in
          not-dirty (state_at f.changes (record_of_strip j 0)) state (sym (entry-state objects (old_pointers t) after n f.changes f.changes_are (record_of_strip j 0)) ∙ hole)
    ]
    past_none n j m f j_low bytes there past Dirty is h =
        let both = above-dirty (is_strip_replaced (two_levels n) f.changes j) (may_have_blocks (two_levels n) f.changes.is_changed j && has_record_left (two_levels n) f.changes f.old j) is in
        let left = (and_parts (may_have_blocks (two_levels n) f.changes.is_changed j) (has_record_left (two_levels n) f.changes f.old j) both).1 in
        let one = any_found (λ k. has_block_after (kept_state (two_levels n) f.changes j k) (has_address (f.old.record_at j k))) pointer_numbers left in
        let low : one.1 < pointer_count = let to = (in-range 0 pointer_count one.0 one.1 one.2).1 in omega (arith, to) in
        absurd (no_record one.1 low (kept_state (two_levels n) f.changes j one.1) refl one.3)
      where
        no_record : (k : ℕ) → k < pointer_count → (state : RecordState) → kept_state (two_levels n) f.changes j k ≡ state → has_block_after state (has_address (f.old.record_at j k)) ≡ true → ⊥
        no_record k k_low Hole e holds = false≢true holds
        no_record k k_low Dirty e holds =
            let dirty : state_in objects n (record_of_strip j k) ≡ Dirty =
            entry-state objects (old_pointers t) after n f.changes f.changes_are (record_of_strip j k) ∙ (may-dirty (may_have_blocks (two_levels n) f.changes.is_changed j) (state_at f.changes (record_of_strip j k)) e).1 in
            let begins : 4032 * record_of_strip j k < length bytes = rw there at (changes.within n (record_of_strip j k) f.low (record-low j k j_low k_low) dirty) in
            omega (arith, begins, past)
        no_record k k_low Unchanged e holds =
            let same = same_bytes n j k f.low j_low k_low
            (entry-state objects (old_pointers t) after n f.changes f.changes_are (record_of_strip j k) ∙ (may-unchanged (may_have_blocks (two_levels n) f.changes.is_changed j) (state_at f.changes (record_of_strip j k)) e).1) in
            let here : finite.get after (object_of_indirect (strip_number n j)) ≡ Some bytes = ap (λ (i : ℕ). finite.get after i) (strip-object n j f.low) ∙ there in
            let sides = (rw here at same).1 in
            let number : record_number (strip_number n j) k ≡ record_of_strip j k = ap (λ (i : ℕ). record_of_strip i k) (strip-which n j f.low) in
            elim sides [
              | inl none ↦ true≢false (sym holds ∙ ap has_address (sym (data_before t n f.old f.low f.old_is j k) ∙ none))
              | inr begins ↦ omega (arith, begins, past, number)
            ]

    -- the top of an object
    top_written : (n : ℕ) (m : ObjectEntry) (f : IsPlannedFrom s t.maps after objects n m) → entry_of planned n ≡ Some m → two_levels n ≡ true
        → IsTopPlanned s n (pointers_of_entry m).strip Dirty f.old.top (pointers_of_entry m).top → Planned (Top n)
    top_written n m f e long (payload, written, fits) = inr (inl (
      is_long (finite.get after n) long,
      payload,
      subst (λ (p : Pointer). IsNewAt s.blocks s.frame (Top n) p payload) (sym (top_now n m e)) written.block,
      λ j j_low. (
        fits j j_low ∙ sym (indirect_now n j m f.low e),
        nothing_past j j_low (finite.get after n) refl,
      ),
    ))
      where
        nothing_past : (j : ℕ) → j < pointer_count → (o : Option (List ℕ)) → finite.get after n ≡ o → HasNonePast o j (new (Indirect (strip_number n j)))
        nothing_past j j_low None there = tt
        nothing_past j j_low (Some bytes) there = λ past. indirect_now n j m f.low e ∙ past_none n j m f j_low bytes there past (strip_state (two_levels n) f.changes f.old j) refl (f.planned.strips j j_low)

    -- one that has none needs none
    no_strip_needs : (n : ℕ) (m : ObjectEntry) (f : IsPlannedFrom s t.maps after objects n m) → entry_of planned n ≡ Some m
        → ((two_levels n && f.changes.is_changed) && list_any (is_strip_left (two_levels n) f.changes f.old) pointer_numbers) ≡ false
        → (j : ℕ) → j < pointer_count → NeedsNoTop (finite.get after n) j (new (Indirect (strip_number n j)))
    no_strip_needs n m f e none j j_low = elim (cases_Bool (two_levels n)) [
      | inr short ↦ elim (cases_Bool (j == 0)) [
        | inl first ↦ inr (eqb-true j 0 first, is_short (finite.get after n) short)
        | inr later ↦ inl (indirect_now n j m f.low e ∙ strip_none n j m f j_low (strip_state (two_levels n) f.changes f.old j) (cut_clear short later) (f.planned.strips j j_low))
      ]
      | inl long ↦ inl (indirect_now n j m f.low e ∙ strip_none n j m f j_low (strip_state (two_levels n) f.changes f.old j) (long_clear long (cases_Bool f.changes.is_changed)) (f.planned.strips j j_low))
    ]
      where
        cut_clear : two_levels n ≡ false → (j == 0) ≡ false → has_block_after (strip_state (two_levels n) f.changes f.old j) (has_address (f.old.strip j)) ≡ false
        cut_clear short later =
            let cleared : strip_state false f.changes f.old j ≡ Hole = ap (λ (b : Bool). state_above true ((b && f.changes.is_changed) && has_record_left false f.changes f.old j)) later in
            ap (λ (b : Bool). has_block_after (strip_state b f.changes f.old j) (has_address (f.old.strip j))) short ∙ ap (λ (x : RecordState). has_block_after x (has_address (f.old.strip j))) cleared

        -- a long object that was not changed has only holes
        hole_at : f.changes.is_changed ≡ false → (k : ℕ) → k < pointer_count → state_at f.changes (record_of_strip j k) ≡ Hole
        hole_at made k k_low = sym (entry-state objects (old_pointers t) after n f.changes f.changes_are (record_of_strip j k))
            ∙ changes.holes n (record_of_strip j k) f.low (record-low j k j_low k_low) (ap is_some f.changes_are) (inl (entry-changed objects (old_pointers t) after n f.changes f.changes_are ∙ made))

        long_clear : two_levels n ≡ true → (f.changes.is_changed ≡ true) ⊎ (f.changes.is_changed ≡ false) → has_block_after (strip_state (two_levels n) f.changes f.old j) (has_address (f.old.strip j)) ≡ false
        long_clear long (inl changed) = none_passes_at (is_strip_left (two_levels n) f.changes f.old) j j_low
            (sym (ap (λ (b : Bool). (b && f.changes.is_changed) && list_any (is_strip_left (two_levels n) f.changes f.old) pointer_numbers) long
            ∙ ap (λ (b : Bool). b && list_any (is_strip_left (two_levels n) f.changes f.old) pointer_numbers) changed) ∙ none)
        long_clear long (inr made) =
            let first : 0 < pointer_count = omega arith in
            let touched : is_strip_touched f.changes j ≡ true = passes_at (λ k. not (is_unchanged (state_at f.changes (record_of_strip j k)))) 0 pointer_count 0 (omega arith) (omega arith)
            (ap (λ (x : RecordState). not (is_unchanged x)) (hole_at made 0 first)) in
            let left : has_record_left true f.changes f.old j ≡ false = none_between (λ k. has_block_after (state_at f.changes (record_of_strip j k)) (has_address (f.old.record_at j k))) 0 pointer_count
            (λ k from to. ap (λ (x : RecordState). has_block_after x (has_address (f.old.record_at j k))) (hole_at made k (omega (arith, to)))) in
            let cleared : strip_state true f.changes f.old j ≡ Hole = (λ x. state_above (not (not (touched x))) (left x)) in
            ap (λ (b : Bool). has_block_after (strip_state b f.changes f.old j) (has_address (f.old.strip j))) long ∙ ap (λ (x : RecordState). has_block_after x (has_address (f.old.strip j))) cleared

    top_planned : (n : ℕ) → n < object_count → (o : Option ObjectEntry) → entry_of planned n ≡ o → Planned (Top n)
    top_planned n low None e = inl (top_kept n e, covered.entries n low (not_touched n low e), λ j j_low. indirect_kept n j low e)
    top_planned n low (Some m) e =
        let f = w.objects_planned.each n m e in
        by_choice m f e ((two_levels n && f.changes.is_changed) && list_any (is_strip_left (two_levels n) f.changes f.old) pointer_numbers) refl f.planned.top
      where
        by_choice : (m : ObjectEntry) (f : IsPlannedFrom s t.maps after objects n m) → entry_of planned n ≡ Some m → (b : Bool)
            → ((two_levels n && f.changes.is_changed) && list_any (is_strip_left (two_levels n) f.changes f.old) pointer_numbers) ≡ b
            → IsTopPlanned s n (pointers_of_entry m).strip (state_above true b) f.old.top (pointers_of_entry m).top → Planned (Top n)
        by_choice m f e true is h =
            let both = (and_parts (two_levels n && f.changes.is_changed) (list_any (is_strip_left (two_levels n) f.changes f.old) pointer_numbers) is).0 in
            top_written n m f e (and_parts (two_levels n) f.changes.is_changed both).0 h
        by_choice m f e false is gone = inr (inr (top_now n m e ∙ gone.none, no_strip_needs n m f e is))

    -- an object that is not there has no indirect block after the plan
    first_now : (n : ℕ) → new (Indirect (strip_number n 0)) ≡ new (Indirect n)
    first_now n = ap (λ (i : ℕ). new (Indirect i)) (first-strip n)

    no_others : (n : ℕ) → n < object_count → finite.get after n ≡ None → (o : Option ObjectEntry) → entry_of planned n ≡ o → new (Indirect n) ≡ no_pointer
    no_others n low none None e = sym (first_now n) ∙ indirect_kept n 0 low e ∙ ap (λ (i : ℕ). old_pointers t (Indirect i)) (first-strip n) ∙ whole.absent n low (not_touched n low e) none
    no_others n low none (Some m) e =
        let f = w.objects_planned.each n m e in
        let first : 0 < pointer_count = omega arith in
        sym (first_now n) ∙ indirect_now n 0 m low e ∙ strip_none n 0 m f first (strip_state (two_levels n) f.changes f.old 0) (clear f) (f.planned.strips 0 first)
      where
        gone_at : (f : IsPlannedFrom s t.maps after objects n m) (k : ℕ) → k < pointer_count → kept_state (two_levels n) f.changes 0 k ≡ Hole
        gone_at f k k_low = by (may_have_blocks (two_levels n) f.changes.is_changed 0)
          where
            by : (b : Bool) → (if b then state_at f.changes (record_of_strip 0 k) else Hole) ≡ Hole
            by false = refl
            by true = sym (entry-state objects (old_pointers t) after n f.changes f.changes_are (record_of_strip 0 k))
                ∙ changes.holes n (record_of_strip 0 k) f.low (record-low 0 k (omega arith) k_low) (ap is_some f.changes_are) (inr none)

        clear : (f : IsPlannedFrom s t.maps after objects n m) → has_block_after (strip_state (two_levels n) f.changes f.old 0) (has_address (f.old.strip 0)) ≡ false
        clear f =
            let short : two_levels n ≡ false = ap has_two_levels none in
            let left : has_record_left (two_levels n) f.changes f.old 0 ≡ false = none_between (λ k. has_block_after (kept_state (two_levels n) f.changes 0 k) (has_address (f.old.record_at 0 k))) 0 pointer_count
            (λ k from to. ap (λ (x : RecordState). has_block_after x (has_address (f.old.record_at 0 k))) (gone_at f k (omega (arith, to)))) in
            let cleared : strip_state (two_levels n) f.changes f.old 0 ≡ Hole =
            (λ x. state_above (not (short x && not (is_strip_touched f.changes 0))) (may_have_blocks (two_levels n) f.changes.is_changed 0 && left x)) ∙ ap (λ (b : Bool). state_above true b) (and-false (may_have_blocks (two_levels n) f.changes.is_changed 0)) in
            ap (λ (x : RecordState). has_block_after x (has_address (f.old.strip 0))) cleared

    -- the entry of an object names its top or its first indirect block
    entry_names : (n : ℕ) → n < object_count → (o : Option ObjectEntry) → entry_of planned n ≡ o → IsEntryPointer (planned_pointer t.below planned n) (new (Top n)) (new (Indirect n)) (finite.get after n)
    entry_names n low None e =
        let none = not_touched n low e in
        let below : planned_pointer t.below planned n ≡ t.below n = ap (λ (o : Option ObjectEntry). option_map_or (λ (x : ObjectEntry). x.pointer) o (t.below n)) e in
        let strip : new (Indirect n) ≡ old_pointers t (Indirect n) = sym (first_now n) ∙ indirect_kept n 0 low e ∙ ap (λ (i : ℕ). old_pointers t (Indirect i)) (first-strip n) in
        rw (below, top_kept n e, strip) (whole.entries n low none)
    entry_names n low (Some m) e =
        let f = w.objects_planned.each n m e in
        let here : planned_pointer t.below planned n ≡ m.pointer = ap (λ (o : Option ObjectEntry). option_map_or (λ (x : ObjectEntry). x.pointer) o (t.below n)) e in
        let strip : new (Indirect n) ≡ (pointers_of_entry m).strip 0 = sym (first_now n) ∙ indirect_now n 0 m low e in
        if_there (finite.get after n) (here ∙ f.named ∙ (λ x. if two_levels n then sym (top_now n m e) x else sym strip x))
      where
        if_there : (o : Option (List ℕ)) → planned_pointer t.below planned n ≡ (if has_two_levels o then new (Top n) else new (Indirect n)) → IsEntryPointer (planned_pointer t.below planned n) (new (Top n)) (new (Indirect n)) o
        if_there None is = tt
        if_there (Some bytes) is = is

    not_planned : (n : ℕ) → entry_of objects n ≡ None → (o : Option ObjectEntry) → entry_of planned n ≡ o → entry_of planned n ≡ None
    not_planned n none None e = e
    not_planned n none (Some m) e = let f = w.objects_planned.each n m e in absurd (none_some (entry_of objects n) none (ap is_some f.changes_are))

    -- no object of a directory is there
    none_left : (d k : ℕ) → k < 63 → has_object after d ≡ false → finite.get after (63 * d + k) ≡ None
    none_left d k low none = none_there (finite.get after (63 * d + k)) (false_from_ne_true (is_some (finite.get after (63 * d + k))) (λ there.
        false≢true (sym none ∙ passes_at (λ n. finite.contains_key after n) (63 * d) 63 (63 * d + k) (omega arith) (omega (arith, low)) there)))

    directory_planned : (d : ℕ) → d < 84 → (touched left : Bool) → is_directory_replaced objects after d ≡ touched → has_object after d ≡ left
        → IsDirectoryPlanned s t.below planned after d (state_above touched left) (slice_index_or t.directories d no_pointer) (slice_index_or directories d no_pointer) → Planned (Directory d)
    directory_planned d low true true e there p =
        inr (inl (
          p.0,
          p.1.block,
          λ k below.
              let in_tree : 63 * d + k < object_count = omega (arith, low, below) in
              entry_for s.frame second (entry_in p.0 k) (planned_pointer t.below planned (63 * d + k)) (new (Top (63 * d + k))) (new (Indirect (63 * d + k))) (finite.get after (63 * d + k)) (p.2 k below)
              (entry_names (63 * d + k) in_tree (entry_of planned (63 * d + k)) refl) (λ none. no_others (63 * d + k) in_tree none (entry_of planned (63 * d + k)) refl) (changes.sizes (63 * d + k)),
        ))
    directory_planned d low true false e none gone =
        inr (inr (
          gone.none,
          λ k below.
              let in_tree : 63 * d + k < object_count = omega (arith, low, below) in
              let absent = none_left d k below none in
              (absent, no_others (63 * d + k) in_tree absent (entry_of planned (63 * d + k)) refl),
        ))
    directory_planned d low false left e there same =
        inl (
          same,
          λ k below.
              let in_tree : 63 * d + k < object_count = omega (arith, low, below) in
              let of : (63 * d + k) / 63 ≡ d = omega (arith, below) in
              let not_here : is_directory_touched objects d ≡ false = (or_parts (is_emptied objects after) (is_directory_touched objects d) e).1 in
              let none : entry_of objects (63 * d + k) ≡ None = untouched objects d (63 * d + k) of not_here in
              let kept = not_planned (63 * d + k) none (entry_of planned (63 * d + k)) refl in (
                sym (first_now (63 * d + k)) ∙ indirect_kept (63 * d + k) 0 in_tree kept ∙ ap (λ (i : ℕ). old_pointers t (Indirect i)) (first-strip (63 * d + k)),
                top_kept (63 * d + k) kept,
                covered.entries (63 * d + k) in_tree none,
              ),
        )

    root_planned : (touched left : Bool) → is_any_touched objects ≡ touched → has_objects after ≡ left → IsRootPlanned s directories (state_above touched left) t.root root → Planned Root
    root_planned true true e there p = inr (inl (p.0, p.1.block, p.2))
    root_planned true false e none gone = inr (inr (gone.none, λ d low. emptied d low (w.directories_planned d low)))
      where
        all_emptied : is_emptied objects after ≡ true
        all_emptied = (λ k. e k && not (none k))

        emptied : (d : ℕ) → d < 84 → IsDirectoryPlanned s t.below planned after d (directory_state objects after d) (slice_index_or t.directories d no_pointer) (slice_index_or directories d no_pointer)
            → slice_index_or directories d no_pointer ≡ no_pointer
        emptied d low p =
            let no_object : has_object after d ≡ false = false_from_ne_true (has_object after d) (λ there. false≢true (sym none ∙ left-left objects (old_pointers t) after d low there)) in
            let state : directory_state objects after d ≡ Hole = (λ k. state_above (all_emptied k || is_directory_touched objects d) (no_object k)) in
            let gone : IsDirectoryPlanned s t.below planned after d Hole (slice_index_or t.directories d no_pointer) (slice_index_or directories d no_pointer) = rw state at p in
            gone.none
    root_planned false left e there same = inl (same, λ d low. kept_directory d low (w.directories_planned d low))
      where
        none : (os : List (ObjectId × ObjectChanges)) → is_any_touched os ≡ false → (d : ℕ) → is_directory_touched os d ≡ false
        none [] e d = refl
        none (o ∷ os) e d = absurd (some_touched (suc (length os)) e (omega arith))

        kept_directory : (d : ℕ) → d < 84 → IsDirectoryPlanned s t.below planned after d (directory_state objects after d) (slice_index_or t.directories d no_pointer) (slice_index_or directories d no_pointer)
            → slice_index_or directories d no_pointer ≡ slice_index_or t.directories d no_pointer
        kept_directory d low p =
            let state : directory_state objects after d ≡ Unchanged = (λ k. state_above ((e k && not (has_objects after)) || none objects e d k) (has_object after d)) in
            let same : IsDirectoryPlanned s t.below planned after d Unchanged (slice_index_or t.directories d no_pointer) (slice_index_or directories d no_pointer) = rw state at p in
            same

    -- each place is planned
    pub tree_planned : IsTreePlan s.blocks s.frame (old_pointers t) (pointers_by root directories (planned_map t.maps planned)) before after
    tree_planned Root low = root_planned (is_any_touched objects) (has_objects after) refl refl w.root_planned
    tree_planned (Directory d) low = directory_planned d low (is_directory_replaced objects after d) (has_object after d) refl refl (w.directories_planned d low)
    tree_planned (Top n) low = top_planned n low (entry_of planned n) refl
    tree_planned (Indirect m) low =
        subst (λ (i : ℕ). Planned (Indirect i)) (number-back m) (indirect_planned (object_of_indirect m) (strip_of m) (number-object m) (number-strip m low) (entry_of planned (object_of_indirect m)) refl)
    tree_planned (Data m k) low =
        subst (λ (i : ℕ). Planned (Data i k)) (number-back m) (data_planned (object_of_indirect m) (strip_of m) k (number-object m) (number-strip m low.0) low.1 (entry_of planned (object_of_indirect m)) refl)

  -- the pointers after the plan are to blocks of the area, if those before it are
  become_placed : (place : Place) (state : RecordState) (old now : Pointer) (Fits : List ℕ → Type 0) → HasBecome s place state old now Fits → IsPlaced s.frame.blocks old → IsPlaced s.frame.blocks now
  become_placed place Unchanged old now Fits same was = rw same was
  become_placed place Dirty old now Fits h was = inr h.1.in_area
  become_placed place Hole old now Fits gone was = inl gone.none

  data_placed : ArePlaced s.frame.blocks (old_pointers t) → (n j k : ℕ) → n < object_count → j < pointer_count → k < pointer_count → (o : Option ObjectEntry) → entry_of planned n ≡ o → IsPlaced s.frame.blocks (new (Data (strip_number n j) k))
  data_placed old n j k low j_low k_low None e = subst (λ (p : Pointer). IsPlaced s.frame.blocks p) (sym (data_kept n j k low e)) (old (Data (strip_number n j) k) (strip-low n j low j_low, k_low))
  data_placed old n j k low j_low k_low (Some m) e =
      let f = w.objects_planned.each n m e in
      let was : IsPlaced s.frame.blocks (f.old.record_at j k) = subst (λ (p : Pointer). IsPlaced s.frame.blocks p) (data_before t n f.old low f.old_is j k) (old (Data (strip_number n j) k) (strip-low n j low j_low, k_low)) in
      subst (λ (p : Pointer). IsPlaced s.frame.blocks p) (sym (data_now n j k m low e))
      (become_placed (Data (strip_number n j) k) (kept_state (two_levels n) f.changes j k) (f.old.record_at j k) ((pointers_of_entry m).record_at j k) _ (f.planned.records j j_low k k_low) was)

  indirect_placed : ArePlaced s.frame.blocks (old_pointers t) → (n j : ℕ) → n < object_count → j < pointer_count → (o : Option ObjectEntry) → entry_of planned n ≡ o → IsPlaced s.frame.blocks (new (Indirect (strip_number n j)))
  indirect_placed old n j low j_low None e = subst (λ (p : Pointer). IsPlaced s.frame.blocks p) (sym (indirect_kept n j low e)) (old (Indirect (strip_number n j)) (strip-low n j low j_low))
  indirect_placed old n j low j_low (Some m) e =
      let f = w.objects_planned.each n m e in
      let was : IsPlaced s.frame.blocks (f.old.strip j) = subst (λ (p : Pointer). IsPlaced s.frame.blocks p) (strip_before t n f.old low f.old_is j) (old (Indirect (strip_number n j)) (strip-low n j low j_low)) in
      subst (λ (p : Pointer). IsPlaced s.frame.blocks p) (sym (indirect_now n j m low e))
      (become_placed (Indirect (strip_number n j)) (strip_state (two_levels n) f.changes f.old j) (f.old.strip j) ((pointers_of_entry m).strip j) _ (f.planned.strips j j_low) was)

  top_placed : ArePlaced s.frame.blocks (old_pointers t) → (n : ℕ) → n < object_count → (o : Option ObjectEntry) → entry_of planned n ≡ o → IsPlaced s.frame.blocks (new (Top n))
  top_placed old n low None e = subst (λ (p : Pointer). IsPlaced s.frame.blocks p) (sym (top_kept n e)) (old (Top n) low)
  top_placed old n low (Some m) e =
      let f = w.objects_planned.each n m e in
      let was : IsPlaced s.frame.blocks f.old.top = subst (λ (p : Pointer). IsPlaced s.frame.blocks p) (top_was n f.old f.old_is) (old (Top n) low) in
      subst (λ (p : Pointer). IsPlaced s.frame.blocks p) (sym (top_now n m e)) (become_placed (Top n) (top_state (two_levels n) f.changes f.old) f.old.top (pointers_of_entry m).top _ f.planned.top was)

  pub tree_placed : ArePlaced s.frame.blocks (old_pointers t) → ArePlaced s.frame.blocks (pointers_by root directories (planned_map t.maps planned))
  tree_placed old Root low = become_placed Root (root_state objects after) t.root root _ w.root_planned (old Root tt)
  tree_placed old (Directory d) low = become_placed (Directory d) (directory_state objects after d) (slice_index_or t.directories d no_pointer) (slice_index_or directories d no_pointer) _ (w.directories_planned d low) (old (Directory d) low)
  tree_placed old (Top n) low = top_placed old n low (entry_of planned n) refl
  tree_placed old (Indirect m) low =
      subst (λ (i : ℕ). IsPlaced s.frame.blocks (new (Indirect i))) (number-back m) (indirect_placed old (object_of_indirect m) (strip_of m) (number-object m) (number-strip m low) (entry_of planned (object_of_indirect m)) refl)
  tree_placed old (Data m k) low =
      subst (λ (i : ℕ). IsPlaced s.frame.blocks (new (Data i k))) (number-back m) (data_placed old (object_of_indirect m) (strip_of m) k (number-object m) (number-strip m low.0) low.1 (entry_of planned (object_of_indirect m)) refl)

  -- what comes back is the block of a place that has a new one, or none
  abbrev IsNew : Pointer → Type 0
  IsNew pointer = (pointer.birth ≡ s.frame.group) ⊎ (pointer ≡ no_pointer)

  record IsReplaced (address : ℕ) : Type 0 where
    place : Place
    in_range : IsPlace place
    is_of : IsOf (old_pointers t place) address
    is_new : IsNew (new place)

  become_new : (place : Place) (state : RecordState) (old now : Pointer) (Fits : List ℕ → Type 0) → replaces state ≡ true → HasBecome s place state old now Fits → IsNew now
  become_new place Unchanged old now Fits e same = absurd (false≢true e)
  become_new place Dirty old now Fits e h = inl h.1.block.birth
  become_new place Hole old now Fits e gone = inr gone.none

  replaces_choice : (b : Bool) → replaces (if b then Dirty else Hole) ≡ true
  replaces_choice true = refl
  replaces_choice false = refl

  -- those of an object that is planned
  module _ (n : ℕ) (m : ObjectEntry) (e : entry_of planned n ≡ Some m) (f : IsPlannedFrom s t.maps after objects n m) where
    map_replaced : (address : ℕ) → IsOfMap (two_levels n) f.changes f.old address → IsReplaced address
    map_replaced address (inl of) = record {
      place = Data (strip_number n of.strip) of.record_is.index;
      in_range = (strip-low n of.strip f.low of.low, of.record_is.low);
      is_of = subst (λ (p : Pointer). IsOf p address) (sym (data_before t n f.old f.low f.old_is of.strip of.record_is.index)) of.record_is.is_of;
      is_new = subst IsNew (sym (data_now n of.strip of.record_is.index m f.low e))
          (become_new (Data (strip_number n of.strip) of.record_is.index) (kept_state (two_levels n) f.changes of.strip of.record_is.index) (f.old.record_at of.strip of.record_is.index)
          ((pointers_of_entry m).record_at of.strip of.record_is.index) _ of.record_is.replaced (f.planned.records of.strip of.low of.record_is.index of.record_is.low));
    }
    map_replaced address (inr (inl of)) = record {
      place = Indirect (strip_number n of.strip);
      in_range = strip-low n of.strip f.low of.low;
      is_of = subst (λ (p : Pointer). IsOf p address) (sym (strip_before t n f.old f.low f.old_is of.strip)) of.is_of;
      is_new = subst IsNew (sym (indirect_now n of.strip m f.low e))
          (become_new (Indirect (strip_number n of.strip)) (strip_state (two_levels n) f.changes f.old of.strip) (f.old.strip of.strip) ((pointers_of_entry m).strip of.strip) _ of.replaced (f.planned.strips of.strip of.low));
    }
    map_replaced address (inr (inr of)) = record {
      place = Top n;
      in_range = f.low;
      is_of = subst (λ (p : Pointer). IsOf p address) (sym (top_was n f.old f.old_is)) of;
      is_new = subst IsNew (sym (top_now n m e)) (become_new (Top n) (top_state (two_levels n) f.changes f.old) f.old.top (pointers_of_entry m).top _
          (replaces_choice ((two_levels n && f.changes.is_changed) && list_any (is_strip_left (two_levels n) f.changes f.old) pointer_numbers)) f.planned.top);
    }

  object_replaced : (address : ℕ) → (o : IsOfObject t.maps after objects planned address) → (m : Option ObjectEntry) → entry_of planned o.number ≡ m → IsReplaced address
  object_replaced address o None e = absurd (none_some (entry_of planned o.number) e o.there)
  object_replaced address o (Some m) e =
      let f = w.objects_planned.each o.number m e in
      let same : o.changes ≡ f.changes = let p = o.changes_are in let q = f.changes_are in cc in
      let same_old : o.old ≡ f.old = sym o.old_is ∙ f.old_is in
      map_replaced o.number m e f address (subst (λ (c : ObjectChanges). IsOfMap (two_levels o.number) c f.old address) same (subst (λ (q : ObjectPointers). IsOfMap (two_levels o.number) o.changes q address) same_old o.is_of))

  replaced : (address : ℕ) → IsAmong s.freed address → IsReplaced address
  replaced address among = elim (w.frees address among) [
    | inl o ↦ object_replaced address o (entry_of planned o.number) refl
    | inr more ↦ elim more [
      | inl d ↦ record {
        place = Directory d.number;
        in_range = d.low;
        is_of = d.is_of;
        is_new = become_new (Directory d.number) (directory_state objects after d.number) (slice_index_or t.directories d.number no_pointer) (slice_index_or directories d.number no_pointer) _ d.replaced (w.directories_planned d.number d.low);
      }
      | inr r ↦ record { place = Root; in_range = tt; is_of = r.1; is_new = become_new Root (root_state objects after) t.root root _ r.0 w.root_planned }
    ]
  ]

  pub freed_in_area : ArePlaced s.frame.blocks (old_pointers t) → All (λ address. IsBlockAddress s.frame.blocks address) s.freed
  freed_in_area old k d low =
      let r = replaced (slice_index_or s.freed k d) (k, slice_get-get_or s.freed k d low) in
      elim (old r.place r.in_range) [ inl none ↦ absurd (r.is_of.0 none) | inr area ↦ rw (← r.is_of.1) area ]

  -- and each block that is replaced comes back
  become_freed : (place : Place) (state : RecordState) (old now : Pointer) (Fits : List ℕ → Type 0) → HasBecome s place state old now Fits → now ≢ old → old ≢ no_pointer → IsAmong s.freed old.address
  become_freed place Unchanged old now Fits same ne there = absurd (ne same)
  become_freed place Dirty old now Fits h ne there = h.1.freed there
  become_freed place Hole old now Fits gone ne there = gone.freed there

  freed_data : (n j k : ℕ) → n < object_count → j < pointer_count → k < pointer_count → (o : Option ObjectEntry) → entry_of planned n ≡ o → new (Data (strip_number n j) k) ≢ old_pointers t (Data (strip_number n j) k)
      → old_pointers t (Data (strip_number n j) k) ≢ no_pointer → IsAmong s.freed (old_pointers t (Data (strip_number n j) k)).address
  freed_data n j k low j_low k_low None e ne there = absurd (ne (data_kept n j k low e))
  freed_data n j k low j_low k_low (Some m) e ne there =
      let f = w.objects_planned.each n m e in
      let was = data_before t n f.old low f.old_is j k in
      subst (λ (p : Pointer). IsAmong s.freed p.address) (sym was)
      (become_freed (Data (strip_number n j) k) (kept_state (two_levels n) f.changes j k) (f.old.record_at j k) ((pointers_of_entry m).record_at j k) _ (f.planned.records j j_low k k_low)
      (λ same. ne (data_now n j k m low e ∙ same ∙ sym was)) (λ none. there (was ∙ none)))

  freed_indirect : (n j : ℕ) → n < object_count → j < pointer_count → (o : Option ObjectEntry) → entry_of planned n ≡ o → new (Indirect (strip_number n j)) ≢ old_pointers t (Indirect (strip_number n j))
      → old_pointers t (Indirect (strip_number n j)) ≢ no_pointer → IsAmong s.freed (old_pointers t (Indirect (strip_number n j))).address
  freed_indirect n j low j_low None e ne there = absurd (ne (indirect_kept n j low e))
  freed_indirect n j low j_low (Some m) e ne there =
      let f = w.objects_planned.each n m e in
      let was = strip_before t n f.old low f.old_is j in
      subst (λ (p : Pointer). IsAmong s.freed p.address) (sym was)
      (become_freed (Indirect (strip_number n j)) (strip_state (two_levels n) f.changes f.old j) (f.old.strip j) ((pointers_of_entry m).strip j) _ (f.planned.strips j j_low)
      (λ same. ne (indirect_now n j m low e ∙ same ∙ sym was)) (λ none. there (was ∙ none)))

  freed_top : (n : ℕ) → (o : Option ObjectEntry) → entry_of planned n ≡ o → new (Top n) ≢ old_pointers t (Top n) → old_pointers t (Top n) ≢ no_pointer → IsAmong s.freed (old_pointers t (Top n)).address
  freed_top n None e ne there = absurd (ne (top_kept n e))
  freed_top n (Some m) e ne there =
      let f = w.objects_planned.each n m e in
      let was = top_was n f.old f.old_is in
      subst (λ (p : Pointer). IsAmong s.freed p.address) (sym was)
      (become_freed (Top n) (top_state (two_levels n) f.changes f.old) f.old.top (pointers_of_entry m).top _ f.planned.top (λ same. ne (top_now n m e ∙ same ∙ sym was)) (λ none. there (was ∙ none)))

  -- a place whose block is told to come back
  abbrev IsFreed : Place → Type 0
  IsFreed place = new place ≢ old_pointers t place → old_pointers t place ≢ no_pointer → IsAmong s.freed (old_pointers t place).address

  freed_at : (place : Place) → IsPlace place → IsFreed place
  freed_at Root low ne there = become_freed Root (root_state objects after) t.root root _ w.root_planned ne there
  freed_at (Directory d) low ne there = become_freed (Directory d) (directory_state objects after d) (slice_index_or t.directories d no_pointer) (slice_index_or directories d no_pointer) _ (w.directories_planned d low) ne there
  freed_at (Top n) low ne there = freed_top n (entry_of planned n) refl ne there
  freed_at (Indirect m) low ne there = subst (λ (i : ℕ). IsFreed (Indirect i)) (number-back m) (freed_indirect (object_of_indirect m) (strip_of m) (number-object m) (number-strip m low) (entry_of planned (object_of_indirect m)) refl) ne there
  freed_at (Data m k) low ne there = subst (λ (i : ℕ). IsFreed (Data i k)) (number-back m) (freed_data (object_of_indirect m) (strip_of m) k (number-object m) (number-strip m low.0) low.1 (entry_of planned (object_of_indirect m)) refl) ne there

  differs : AreBornBefore s.frame.group (old_pointers t) → (place : Place) → IsPlace place → old_pointers t place ≢ no_pointer → IsNew (new place) → new place ≢ old_pointers t place
  differs older place in_range there (inl born) same =
      let before = older place in_range in
      let birth : (old_pointers t place).birth ≡ s.frame.group = ap (λ (p : Pointer). p.birth) (sym same) ∙ born in
      omega (arith, before, birth)
  differs older place in_range there (inr none) same = there (sym same ∙ none)

  pub all_freed : AreBornBefore s.frame.group (old_pointers t) → AreFreed (old_pointers t) (pointers_by root directories (planned_map t.maps planned)) s.freed
  all_freed older = record {
    all = freed_at;
    no_others = λ i address e. let r = replaced address (i, e) in (r.place, r.in_range, differs older r.place r.in_range r.is_of.0 r.is_new, r.is_of.1, r.is_of.0);
  }

  -- the root stays if no operation is on an object, and otherwise is new or none
  pub root_cases : (is_any_touched objects ≡ false → root ≡ t.root) × (is_any_touched objects ≡ true → IsNew root)
  root_cases = (
    (λ e. let same : IsRootPlanned s directories Unchanged t.root root = rw (ap (λ (b : Bool). state_above b (has_objects after)) e) at w.root_planned in same),
    (λ e. become_new Root (root_state objects after) t.root root _ (ap (λ (b : Bool). replaces (state_above b (has_objects after))) e ∙ replaces_choice (has_objects after)) w.root_planned),
  )
