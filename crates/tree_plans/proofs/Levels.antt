-- An object is planned part by part: the records of one strip after another, then its indirect blocks, and then its
-- top.
use Rattle.std.proofs.Common.{◌≡◌, ◌==◌, ℕ, zero, suc, ◌+◌, ◌<◌, ◌≤◌, inl, inr, Bool, true, false, ◌&&◌, ◌||◌, List, [], ◌∷◌, ◌++◌, length, map, nat_eq, Option, None, Some, refl, sym, ◌∙◌, ap, subst, arith}
use Rattle.std.specs.Prelude.{cond, is_some, unwrap_or, vec_len, if◌then◌else◌}
use Rattle.std.specs.List.{list_any, range_with_len}
use Rattle.std.specs.Map.{lookup}
use Rattle.std.specs.Global.{Vec}
use Rattle.std.specs.Option.{option_map_or}
use Rattle.std.proofs.lemmas.Bool.{cases_Bool, cases_eq, cases_lt, eq-eqb, false≢true, ne_eqb}
use Rattle.std.proofs.lemmas.List.{append-nil}
use Rattle.std.proofs.lemmas.List.FromFn.{get_or-map-range_with_len}
use Rattle.base.specs.declared.pointer.Pointer.{Pointer}
use Rattle.base.specs.declared.record_state.RecordState.{RecordState}
use Rattle.base.specs.formats.Fields.{no_pointer, pointer_in}
use Rattle.base.specs.formats.Limits.{pointer_count}
use Rattle.base.specs.tree.Syncs.{has_block_after, is_dirty, pointer_numbers}
use Rattle.base.specs.tree.Places.{strip_number}
use Rattle.base.specs.tree.Places.Place.{Indirect}
use Rattle.base.proofs.tree.WrittenPlaces.{any-same, in-range}
use Rattle.tree_blocks.specs.declared.tree.ObjectEntry.{ObjectEntry}
use Rattle.tree_blocks.specs.Pointers.{ObjectPointers, long_pointers, pointer_of_list, pointers_of_entry, short_pointers, strip_in, told_record}
use Rattle.space.specs.FreeSets.{FreeSpace}
use Rattle.tree_plans.specs.declared.changed_object.ChangedObject.{ChangedObject}
use Rattle.tree_plans.specs.declared.planner.Planner.{Planner}
use Rattle.tree_plans.specs.Changes.{has_address, is_strip_dirty, may_have_blocks}
use Rattle.tree_blocks.specs.Entries.{is_long_size}
use Rattle.tree_plans.specs.Order.{address_if, new_addresses, addresses_where, strip_addresses}
use Rattle.tree_plans.specs.Parts.{AreMet, ExtendsPlan, IsMapRead, IsOfMade, IsOfMadeAt, MadeBy, PassesStrip, PlansIndirect, PlansIndirectsBelow, PlansMet, PlansRecords, PlansStripsBelow, new_blocks_of, old_in}
use Rattle.tree_plans.specs.Plans.{AreRecordsPlanned, IsOfRecord, IsOfStrip, IsRecordPlanned, has_record_left, is_dirty_in, is_strip_left, is_strip_replaced, is_indirect_made, kept_state, progress_of, records_with, state_above, state_over_records, strip_state, top_state}
use Rattle.tree_plans.specs.Pointers.{entry_strips, pointers_in, strip_with, strips_with}
use Rattle.tree_blocks.specs.ReadPointers.{records_among}
use Rattle.tree_plans.proofs.Once.{indirect_once, strip_once}
use Rattle.tree_plans.proofs.Order.{adds_not, adds_push, adds_twice, addresses_equal, addresses_same, no_addresses, strip_addresses_more}
use Rattle.tree_plans.proofs.Progress.{become_stays, each_push, frees_more, goes_nowhere, goes_twice, records_stay, strip_below, strip_here}
use Rattle.tree_plans.proofs.Strips.{kept-dirty, made_below, made_here, met_passed, met_put, next_absent, told_none, unmet_planned, unwritten_record}
use Rattle.tree_plans.proofs.Uses.{pointers_use_push, strips_use_passed, strips_use_push}

-- the pointers to records after one strip is put, and those of a strip that is not among them
records_kept : (was : ObjectPointers) (old new : List (ℕ × Vec Pointer)) (strip : ℕ) (v : Vec Pointer) → ((q : ℕ) → records_among new q ≡ cond (strip == q) (Some v) (records_among old q))
    → (j k : ℕ) → j < strip → records_with was old j k ≡ records_with was new j k
records_kept was old new strip v put j k low =
    let other : (strip == j) ≡ false = ne_eqb strip j (λ same. omega (arith, same, low)) in
    sym (ap (λ (o : Option (Vec Pointer)). option_map_or (λ (x : Vec Pointer). pointer_of_list x.items k) o (was.record_at j k)) (put j ∙ ap (λ (b : Bool). cond b (Some v) (records_among old j)) other))

records_here : (was : ObjectPointers) (old new : List (ℕ × Vec Pointer)) (strip : ℕ) (v : Vec Pointer) → ((q : ℕ) → records_among new q ≡ cond (strip == q) (Some v) (records_among old q))
    → (k : ℕ) → records_with was new strip k ≡ pointer_of_list v.items k
records_here was old new strip v put k =
    ap (λ (o : Option (Vec Pointer)). option_map_or (λ (x : Vec Pointer). pointer_of_list x.items k) o (was.record_at strip k)) (put strip ∙ ap (λ (b : Bool). cond b (Some v) (records_among old strip)) (eq-eqb strip strip refl))

records_absent : (was : ObjectPointers) (strips : List (ℕ × Vec Pointer)) (strip : ℕ) → records_among strips strip ≡ None → (k : ℕ) → records_with was strips strip k ≡ was.record_at strip k
records_absent was strips strip none k = ap (λ (o : Option (Vec Pointer)). option_map_or (λ (x : Vec Pointer). pointer_of_list x.items k) o (was.record_at strip k)) none

module _ (free : FreeSpace) (object : ChangedObject) (bytes : List ℕ) (strip : ℕ) (low : strip < pointer_count) (old : List (ℕ × Vec Pointer)) where
  abbrev was : ObjectPointers
  was = old_in object

  abbrev Here : Planner → ℕ → (ℕ → Pointer) → Type 0
  Here planner j new = AreRecordsPlanned (progress_of planner) object.id.0 j bytes object.is_long object.changes.now (was.record_at j) pointer_count new

  -- pointers that are the same
  same_planned : (planner : Planner) (j : ℕ) (f g : ℕ → Pointer) → ((k : ℕ) → f k ≡ g k) → Here planner j f → Here planner j g
  same_planned planner j f g same h k k_low = subst (λ (p : Pointer). IsRecordPlanned (progress_of planner) object.id.0 j k bytes (kept_state object.is_long object.changes.now j k) (was.record_at j k) p) (same k) (h k k_low)

  -- a strip that the plan doesn't go over
  pub strip_passed : (first planner : Planner) → IsMapRead object → AreMet object strip old → is_some (records_among object.old.now.strips.entries strip) ≡ false → is_strip_dirty object.changes.now strip ≡ false
      → PlansStripsBelow free object bytes strip first planner old → PlansStripsBelow free object bytes (strip + 1) first planner old
  strip_passed first planner read met unread clean below = record {
    goes = below.goes;
    planned = λ j j_low. elim (cases_lt j strip) [
      | inl before ↦ below.planned j before
      | inr last ↦
          let same : strip ≡ j = omega (arith, j_low, last) in
          subst (λ (i : ℕ). Here planner i (records_with was old i)) same
          (same_planned planner strip (was.record_at strip) (records_with was old strip) (λ k. sym (records_absent was old strip (next_absent object strip old met) k)) (unmet_planned object read strip low unread clean (progress_of planner) object.id.0 bytes))
    ];
    frees = λ address among. elim (below.frees address among) [ inl at_first ↦ inl at_first | inr of ↦ inr (strip_below object.is_long object.changes.now was strip address of) ];
    once = λ apart fresh distinct. below.once apart (λ address of. fresh address (strip_below object.is_long object.changes.now was strip address of)) distinct;
    uses = strips_use_passed (new_blocks_of first) (new_blocks_of planner) old strip below.uses;
    adds = below.adds ∙ ap (λ (l : List ℕ). new_addresses (new_blocks_of first) ++ l) (sym (strip_addresses_more (is_dirty_in object) (records_with was old) (records_with was old) strip (λ j k j_low k_low. refl)
        ∙ ap (λ (l : List ℕ). strip_addresses (is_dirty_in object) (records_with was old) strip ++ l) nothing ∙ append-nil (strip_addresses (is_dirty_in object) (records_with was old) strip)));
  }
    where
      nothing : addresses_where (is_dirty_in object strip) (records_with was old strip) pointer_count ≡ []
      nothing = addresses_same (is_dirty_in object strip) (λ k. false) (records_with was old strip) pointer_count
          (λ k k_low. kept-dirty object.is_long object.changes.now strip k (unwritten_record object.changes.now strip k k_low clean))
          ∙ no_addresses (λ k. false) (records_with was old strip) pointer_count (λ k. refl)

  pub passes_unmet : (planner : Planner) → IsMapRead object → is_some (records_among object.old.now.strips.entries strip) ≡ false → is_strip_dirty object.changes.now strip ≡ false → PassesStrip free object bytes strip old planner planner old
  passes_unmet planner read unread clean = record {
    met = λ met. met_passed object strip old met unread clean;
    done = λ first met below. strip_passed first planner read met unread clean below;
  }

  -- one whose records are placed
  module _ (new : List (ℕ × Vec Pointer)) (v : Vec Pointer) (put : (q : ℕ) → records_among new q ≡ cond (strip == q) (Some v) (records_among old q)) where
    abbrev kept : (j k : ℕ) → j < strip → k < pointer_count → records_with was old j k ≡ records_with was new j k
    kept j k j_low k_low = records_kept was old new strip v put j k j_low

    pub strip_put : (first one two : Planner) → PlansStripsBelow free object bytes strip first one old → PlansRecords free object bytes strip one two v.items → PlansStripsBelow free object bytes (strip + 1) first two new
    strip_put first one two below more = record {
      goes = goes_twice below.goes more.goes;
      planned = λ j j_low. elim (cases_lt j strip) [
        | inl before ↦ same_planned two j (records_with was old j) (records_with was new j) (λ k. records_kept was old new strip v put j k before)
            (records_stay object.id.0 j bytes object.is_long object.changes.now (was.record_at j) pointer_count (records_with was old j) more.goes (below.planned j before))
        | inr last ↦
            let same : strip ≡ j = omega (arith, j_low, last) in
            subst (λ (i : ℕ). Here two i (records_with was new i)) same (same_planned two strip (pointer_of_list v.items) (records_with was new strip) (λ k. sym (records_here was old new strip v put k)) more.planned)
      ];
      frees = frees_more first.freed.items one.freed.items two.freed.items (IsOfStrip object.is_long object.changes.now was strip) (IsOfRecord object.is_long object.changes.now was strip pointer_count)
          (IsOfStrip object.is_long object.changes.now was (strip + 1)) (strip_below object.is_long object.changes.now was strip) (strip_here object.is_long object.changes.now was strip) below.frees more.frees;
      once = λ apart. strip_once first.freed.items one.freed.items two.freed.items object.is_long object.changes.now was strip low apart below.frees (below.once apart) (more.once apart);
      uses = strips_use_push (new_blocks_of first) (new_blocks_of one) (new_blocks_of two) old new strip v
          (λ j j_low. put j ∙ ap (λ (b : Bool). cond b (Some v) (records_among old j)) (ne_eqb strip j (λ same. omega (arith, same, j_low))))
          (put strip ∙ ap (λ (b : Bool). cond b (Some v) (records_among old strip)) (eq-eqb strip strip refl)) below.uses more.uses;
      adds = adds_twice (new_blocks_of first) (new_blocks_of one) (new_blocks_of two) _ _ below.adds more.adds ∙ ap (λ (l : List ℕ). new_addresses (new_blocks_of first) ++ l)
          (ap (λ (l : List ℕ). strip_addresses (is_dirty_in object) (records_with was old) strip ++ l)
          (addresses_equal (is_dirty_in object strip) (pointer_of_list v.items) (records_with was new strip) pointer_count (λ k k_low. sym (records_here was old new strip v put k)))
          ∙ sym (strip_addresses_more (is_dirty_in object) (records_with was old) (records_with was new) strip kept));
    }

    pub passes_met : (one two : Planner) → (is_some (records_among object.old.now.strips.entries strip) || is_strip_dirty object.changes.now strip) ≡ true → vec_len v ≡ pointer_count → PlansRecords free object bytes strip one two v.items → PassesStrip free object bytes strip old one two new
    passes_met one two over count more = record {
      met = λ met. met_put object strip old met new v over count put;
      done = λ first met below. strip_put first one two below more;
    }

-- the indirect block of a strip that the plan doesn't go over, and of one that it does
pub met_kept : (free : FreeSpace) (object : ChangedObject) (strip : ℕ) (strips : List (ℕ × Vec Pointer)) (planner : Planner) (pointer : Pointer) → records_among strips strip ≡ None → pointer ≡ (old_in object).strip strip
    → PlansMet free object strip strips planner planner pointer
met_kept free object strip strips planner pointer none is = record {
  goes = goes_nowhere _ _;
  planned = subst (λ (o : Option (Vec Pointer)). MadeBy planner object strip o pointer) (sym none) is;
  frees = λ address among. inl among;
  once = λ fresh distinct. distinct;
  uses = λ address taken. inl taken;
  adds = adds_not (new_blocks_of planner) (is_indirect_made object strips strip) pointer (ap (λ (o : Option (Vec Pointer)). option_map_or (λ (v : Vec Pointer). is_dirty (state_over_records object strip v.items)) o false) none);
}

pub met_made : (free : FreeSpace) (object : ChangedObject) (strip : ℕ) (strips : List (ℕ × Vec Pointer)) (v : Vec Pointer) → records_among strips strip ≡ Some v → (old new : Planner) (was pointer : Pointer) → was ≡ (old_in object).strip strip
    → PlansIndirect free object strip v.items was old new pointer → PlansMet free object strip strips old new pointer
met_made free object strip strips v there old new was pointer is done = record {
  goes = done.goes;
  planned = subst (λ (o : Option (Vec Pointer)). MadeBy new object strip o pointer) (sym there) (rw is at done.planned);
  frees = λ address among. elim (done.frees address among) [ inl before ↦ inl before | inr of ↦ inr (record { records = v; records_are = there; is_of = rw is at of }) ];
  once = λ fresh. done.once (λ address of. fresh address (record { records = v; records_are = there; is_of = rw is at of }));
  uses = done.uses;
  adds = done.adds ∙ ap (λ (b : Bool). new_addresses (new_blocks_of old) ++ address_if b pointer)
      (sym (ap (λ (o : Option (Vec Pointer)). option_map_or (λ (x : Vec Pointer). is_dirty (state_over_records object strip x.items)) o false) there));
}

-- the second one has as many records as any, and is written if its state says so
pub met_long : (object : ChangedObject) (strip : ℕ) (strips : List (ℕ × Vec Pointer)) (v : Vec Pointer) → AreMet object pointer_count strips → records_among strips strip ≡ Some v → vec_len v ≡ pointer_count
met_long object strip strips v met there = rw there at (met.whole strip)

pub met_mark : (object : ChangedObject) (strip : ℕ) (strips : List (ℕ × Vec Pointer)) (v : Vec Pointer) → records_among strips strip ≡ Some v
    → is_dirty (state_over_records object strip v.items) ≡ is_indirect_made object strips strip
met_mark object strip strips v there = sym (ap (λ (o : Option (Vec Pointer)). option_map_or (λ (x : Vec Pointer). is_dirty (state_over_records object strip x.items)) o false) there)

-- one indirect block more
made_stays : (free : FreeSpace) (one two : Planner) (object : ChangedObject) (j : ℕ) (o : Option (Vec Pointer)) (pointer : Pointer) → ExtendsPlan free one two → MadeBy one object j o pointer → MadeBy two object j o pointer
made_stays free one two object j None pointer goes is = is
made_stays free one two object j (Some v) pointer goes made =
    become_stays (Indirect (strip_number object.id.0 j)) (state_over_records object j v.items) ((old_in object).strip j) pointer (λ payload. (k : ℕ) → k < pointer_count → pointer_in payload k ≡ pointer_of_list v.items k) goes made

pub indirects_push : (free : FreeSpace) (object : ChangedObject) (strips : List (ℕ × Vec Pointer)) (strip : ℕ) → strip < pointer_count → (first one two : Planner) (indirects : List Pointer) (pointer : Pointer) → length indirects ≡ strip
    → PlansIndirectsBelow free object strips strip first one indirects → PlansMet free object strip strips one two pointer → PlansIndirectsBelow free object strips (strip + 1) first two (indirects ++ pointer ∷ [])
indirects_push free object strips strip low first one two indirects pointer long below more = record {
  goes = goes_twice below.goes more.goes;
  planned = each_push (λ j p. MadeBy two object j (records_among strips j) p) indirects pointer no_pointer strip long
      (λ j j_low. made_stays free one two object j (records_among strips j) (pointer_of_list indirects j) more.goes (below.planned j j_low)) more.planned;
  frees = frees_more first.freed.items one.freed.items two.freed.items (IsOfMade object strips strip) (IsOfMadeAt object strips strip) (IsOfMade object strips (strip + 1)) (made_below object strips strip) (made_here object strips strip)
      below.frees more.frees;
  once = λ apart. indirect_once first.freed.items one.freed.items two.freed.items object strips strip low apart below.frees (below.once apart) more.once;
  uses = pointers_use_push (new_blocks_of first) (new_blocks_of one) (new_blocks_of two) indirects strip pointer long below.uses more.uses;
  adds = adds_push (is_indirect_made object strips) (new_blocks_of first) (new_blocks_of one) (new_blocks_of two) indirects strip (is_indirect_made object strips strip) pointer long refl below.adds more.adds;
}

-- What is told of strips by the pointers that were read and placed stands for each of them.
lookup-map : {X : Type 0} (f : ℕ → X) (j a n : ℕ) → a ≤ j → j < a + n → lookup (nat_eq j) (map (λ i. (i, f i)) (range_with_len a n)) ≡ Some (f j)
lookup-map f j a zero from to = absurd (omega arith)
lookup-map f j a (suc n) from to = elim (cases_eq a j) [
  | inl same ↦ let here : nat_eq j a ≡ true = eq-eqb j a (sym same) in rw here (ap (λ (i : ℕ). Some (f i)) same)
  | inr other ↦
      let apart : nat_eq j a ≡ false = ne_eqb j a (λ same. other (sym same)) in
      rw apart (lookup-map f j (a + 1) n (omega (arith, from, other)) (omega (arith, to)))
]

pub strip_in-with : (indirects : List Pointer) (strips : List (ℕ × Vec Pointer)) (told : List (ℕ × (Pointer × List Pointer))) (j : ℕ) → j < pointer_count
    → strip_in (strips_with indirects strips told) j ≡ strip_with indirects strips told j
unfolding strips_with
strip_in-with indirects strips told j low = ap (λ (o : Option (Pointer × List Pointer)). unwrap_or o (no_pointer, [])) (lookup-map (strip_with indirects strips told) j 0 pointer_count (omega arith) (omega (arith, low)))

-- and what an entry tells of a strip is what the tree has of it
abbrev strip_told : ObjectEntry → ℕ → Pointer × List Pointer
strip_told e j = ((pointers_of_entry e).strip j, map (λ k. (pointers_of_entry e).record_at j k) pointer_numbers)

strip_in-entry : (e : ObjectEntry) (j : ℕ) → j < pointer_count → strip_in (entry_strips e) j ≡ strip_told e j
unfolding entry_strips
strip_in-entry e j low = ap (λ (o : Option (Pointer × List Pointer)). unwrap_or o (no_pointer, [])) (lookup-map (strip_told e) j 0 pointer_count (omega arith) (omega (arith, low)))

pub entry-record : (e : ObjectEntry) (j k : ℕ) → j < pointer_count → k < pointer_count → pointer_of_list (strip_in (entry_strips e) j).1 k ≡ (pointers_of_entry e).record_at j k
entry-record e j k low k_low =
    ap (λ (s : Pointer × List Pointer). pointer_of_list s.1 k) (strip_in-entry e j low)
    ∙ get_or-map-range_with_len (λ i. (pointers_of_entry e).record_at j i) 0 pointer_count k k no_pointer k_low (omega arith)

-- the pointers of an object by its new entry: its top, its indirect blocks, and its records below these
module _ (e : ObjectEntry) (is_long : Bool) (levels : is_long ≡ is_long_size e.length) (top : Pointer) (indirects : List Pointer) (strips : List (ℕ × Vec Pointer)) (told : List (ℕ × (Pointer × List Pointer)))
    (names : e.pointer ≡ (if is_long then top else pointer_of_list indirects 0)) (tells : e.strips.value ≡ strips_with indirects strips told) where
  abbrev by_levels : Bool → ObjectPointers
  by_levels b = if b then long_pointers e.pointer e.strips.value else short_pointers e.pointer e.strips.value

  entry_is : pointers_of_entry e ≡ by_levels is_long
  entry_is = ap by_levels (sym levels)

  told_at : (j : ℕ) → j < pointer_count → strip_in e.strips.value j ≡ strip_with indirects strips told j
  told_at j low = ap (λ (l : List (ℕ × (Pointer × List Pointer))). strip_in l j) tells ∙ strip_in-with indirects strips told j low

  pub entry_top : is_long ≡ true → (pointers_of_entry e).top ≡ top
  entry_top long = ap (λ (o : ObjectPointers). o.top) (entry_is ∙ ap by_levels long) ∙ names ∙ ap (λ (b : Bool). if b then top else pointer_of_list indirects 0) long

  pub entry_no_top : is_long ≡ false → (pointers_of_entry e).top ≡ no_pointer
  entry_no_top short = ap (λ (o : ObjectPointers). o.top) (entry_is ∙ ap by_levels short)

  pub entry_strip : is_long ≡ true → (j : ℕ) → j < pointer_count → (pointers_of_entry e).strip j ≡ pointer_of_list indirects j
  entry_strip long j low = ap (λ (o : ObjectPointers). o.strip j) (entry_is ∙ ap by_levels long) ∙ ap (λ (p : Pointer × List Pointer). p.0) (told_at j low)

  pub entry_first : is_long ≡ false → (pointers_of_entry e).strip 0 ≡ pointer_of_list indirects 0
  entry_first short = ap (λ (o : ObjectPointers). o.strip 0) (entry_is ∙ ap by_levels short) ∙ names ∙ ap (λ (b : Bool). if b then top else pointer_of_list indirects 0) short

  pub entry_no_strip : is_long ≡ false → (j : ℕ) → (j == 0) ≡ false → (pointers_of_entry e).strip j ≡ no_pointer
  entry_no_strip short j later = ap (λ (o : ObjectPointers). o.strip j) (entry_is ∙ ap by_levels short) ∙ ap (λ (b : Bool). if b then e.pointer else no_pointer) later

  pub entry_record : is_long ≡ true → (j k : ℕ) → j < pointer_count → (pointers_of_entry e).record_at j k ≡ told_record (strip_with indirects strips told j) k
  entry_record long j k low = ap (λ (o : ObjectPointers). o.record_at j k) (entry_is ∙ ap by_levels long) ∙ ap (λ (p : Pointer × List Pointer). told_record p k) (told_at j low)

  pub entry_first_record : is_long ≡ false → (k : ℕ) → (pointers_of_entry e).record_at 0 k ≡ told_record (strip_with indirects strips told 0) k
  entry_first_record short k =
      ap (λ (o : ObjectPointers). o.record_at 0 k) (entry_is ∙ ap by_levels short)
      ∙ (λ x. told_record ((names ∙ ap (λ (b : Bool). if b then top else pointer_of_list indirects 0) short) x, (told_at 0 (omega arith) x).1) k)

  pub entry_no_record : is_long ≡ false → (j k : ℕ) → (j == 0) ≡ false → (pointers_of_entry e).record_at j k ≡ no_pointer
  entry_no_record short j k later = ap (λ (o : ObjectPointers). o.record_at j k) (entry_is ∙ ap by_levels short)
      ∙ ap (λ (b : Bool). if b then told_record (e.pointer, (strip_in e.strips.value 0).1) k else no_pointer) later

-- What an object had by what was read, and by what else was told: they differ only in strips that stay.
module _ (object : ChangedObject) (read : IsMapRead object) (told : List (ℕ × (Pointer × List Pointer))) where
  abbrev told_was : ObjectPointers
  told_was = pointers_in told object.old.now

  pub read_same : (j k : ℕ) → is_some (records_among object.old.now.strips.entries j) ≡ true → told_was.record_at j k ≡ (old_in object).record_at j k
  read_same j k there = by (records_among object.old.now.strips.entries j) there
    where
      list_of : Option (Vec Pointer) → List Pointer → List Pointer
      list_of o rest = option_map_or (λ (v : Vec Pointer). v.items) o rest

      by : (o : Option (Vec Pointer)) → is_some o ≡ true → told_record (pointer_of_list object.old.now.indirects.items j, list_of o (strip_in told j).1) k ≡ told_record (pointer_of_list object.old.now.indirects.items j, list_of o []) k
      by (Some v) e = refl
      by None e = absurd (false≢true e)

  pub replaced_same : (j k : ℕ) → j < pointer_count → is_strip_replaced object.is_long object.changes.now j ≡ true → told_was.record_at j k ≡ (old_in object).record_at j k
  replaced_same j k low replaced = elim (read.strips j low replaced) [
    | inl there ↦ read_same j k there
    | inr none ↦ told_none (pointer_of_list object.old.now.indirects.items j) _ k none ∙ sym (told_none (pointer_of_list object.old.now.indirects.items j) _ k none)
  ]

  -- so they have the same states
  pub strip-state-read : (j : ℕ) → j < pointer_count → strip_state object.is_long object.changes.now told_was j ≡ strip_state object.is_long object.changes.now (old_in object) j
  strip-state-read j low = elim (cases_Bool (is_strip_replaced object.is_long object.changes.now j)) [
    | inl replaced ↦ (λ x. state_above (is_strip_replaced object.is_long object.changes.now j) (may_have_blocks object.is_long object.changes.now.is_changed j
        && list_any (λ k. has_block_after (kept_state object.is_long object.changes.now j k) (has_address (replaced_same j k low replaced x))) pointer_numbers))
    | inr stays ↦ ap (λ (b : Bool). state_above b (may_have_blocks object.is_long object.changes.now.is_changed j && has_record_left object.is_long object.changes.now told_was j)) stays
        ∙ sym (ap (λ (b : Bool). state_above b (may_have_blocks object.is_long object.changes.now.is_changed j && has_record_left object.is_long object.changes.now (old_in object) j)) stays)
  ]

  pub top-state-read : top_state object.is_long object.changes.now told_was ≡ top_state object.is_long object.changes.now (old_in object)
  top-state-read = ap (λ (b : Bool). state_above true ((object.is_long && object.changes.now.is_changed) && b))
      (any-same (is_strip_left object.is_long object.changes.now told_was) (is_strip_left object.is_long object.changes.now (old_in object)) pointer_numbers
      (λ i j at. let to = (in-range 0 pointer_count i j at).1 in
      ap (λ (state : RecordState). has_block_after state (has_address (told_was.strip j))) (strip-state-read j (omega (arith, to)))))
