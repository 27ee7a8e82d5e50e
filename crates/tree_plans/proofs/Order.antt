-- The blocks of a plan stand in the order of their places.
use Rattle.std.proofs.Common.{◌≡◌, ◌==◌, ℕ, zero, suc, ◌+◌, ◌*◌, ◌/◌, ◌≤◌, ◌<◌, inl, inr, Bool, true, false, not, cond, ◌&&◌, ◌||◌, List, [], ◌∷◌, ◌++◌, length, map, filter, Option, Ordering, Less, Equal, Greater, Some, None, refl, sym, ◌∙◌, ap, append_assoc, arith, nat_lt, ltb-true, if◌then◌else◌}
use Rattle.std.specs.Prelude.{slice_get, slice_index_or, is_some}
use Rattle.std.specs.List.{AllByRecursion, list_any, flat_map, range_with_len}
use Rattle.std.specs.List.Sorted.{IsStrictlySortedBy}
use Rattle.std.specs.Map.{keys_of}
use Rattle.std.specs.Option.{option_map_or}
use Rattle.std.specs.Ordering.{nat_cmp}
use Rattle.std.specs.FinMap as finite
use Rattle.std.specs.FinMap.{FinMap}
use Rattle.std.specs.Cmp.Derive.{one_truth}
use Rattle.std.proofs.Math.Bool.{and-false, or-true}
use Rattle.std.proofs.lemmas.Bool.{cases_lt, cases_eq, eq-eqb, eqb-true, ne_eqb}
use Rattle.std.proofs.lemmas.List.{append-nil, map-append, map-id}
use Rattle.std.proofs.lemmas.List.Elements.{filter-append}
use Rattle.std.proofs.lemmas.List.FromFn.{map-range_with_len_more}
use Rattle.std.proofs.lemmas.Grind.{flat_map-append}
use Rattle.std.proofs.lemmas.Simd.{map-map}
use Rattle.base.specs.declared.pointer.Pointer.{Pointer}
use Rattle.base.specs.declared.names.ObjectId.{ObjectId}
use Rattle.base.specs.formats.Fields.{no_pointer}
use Rattle.base.specs.formats.Limits.{object_count, pointer_count}
use Rattle.base.specs.tree.Places.{Place, record_of_strip, strip_number, strip_of}
use Rattle.base.specs.tree.Places.Place.{Root, Directory, Top, Indirect, Data}
use Rattle.base.proofs.tree.Strips.{strip-object, strip-which}
use Rattle.base.specs.declared.record_state.RecordState.{RecordState}
use Rattle.base.specs.declared.record_state.RecordState.TheVariants.{Unchanged, Dirty, Hole}
use Rattle.base.specs.tree.Syncs.{GroupChanges, has_block_after, has_strip_after, is_dirty, is_directory_written, is_indirect_written, is_record_written, is_root_written, is_strip_changed, is_strip_kept, is_top_written, is_unchanged, object_numbers, places_of_object, places_of_strip, pointer_numbers, written_by}
use Rattle.base.specs.tree.Syncs as told
use Rattle.base.proofs.common.KeptLists.{any_found, filter_same, none_between}
use Rattle.base.proofs.tree.WrittenPlaces.{any-same, flat_map-same, in-range}
use Rattle.base.specs.kept.PlannedTrees.{NewBlock}
use Rattle.tree_blocks.specs.declared.tree.ObjectEntry.{ObjectEntry}
use Rattle.tree_blocks.specs.Pointers.{ObjectPointers, pointer_of_list, pointers_by, pointers_of_entry}
use Rattle.tree_plans.specs.declared.changed_object.ChangedObject.{ChangedObject}
use Rattle.tree_plans.specs.declared.changes.ObjectChanges.{ObjectChanges}
use Rattle.tree_plans.specs.Pointers.{IsPut, OldTree, entry_of, old_pointers, planned_map}
use Rattle.tree_plans.specs.Parts.{old_in}
use Rattle.tree_plans.specs.Changes.{AreInRange, changes_of_group, has_address, has_two_levels, is_changed_in, is_strip_touched, may_have_blocks, state_at, state_in}
use Rattle.tree_plans.specs.declared.planner.PlannedBlock.{PlannedBlock}
use Rattle.tree_plans.specs.Plans.{AreRecordsPlanned, HasBecome, Progress, address_of, has_record_left, is_strip_left, is_strip_replaced, kept_state, new_block, state_above, state_over_records, strip_state, top_state}
use Rattle.tree_plans.specs.Walks.{has_object, has_objects, is_any_touched, is_directory_dirty, is_directory_replaced, is_directory_touched, root_state}
use Rattle.tree_plans.specs.Order.{Adds, AreInOrder, address_if, new_addresses, addresses_where, all_addresses, object_addresses, strip_addresses}
use Rattle.tree_plans.proofs.Progress.{addresses-push, front_of, last_of}

-- blocks that are added one after another
pub adds_none : (s : List NewBlock) → Adds s s []
adds_none s = sym (append-nil (new_addresses s))

pub adds_one : (s t : List NewBlock) (block : NewBlock) (at : ℕ) → t ≡ s ++ block ∷ [] → at ≡ block.address → Adds s t (at ∷ [])
adds_one s t block at pushed here = ap new_addresses pushed ∙ addresses-push s block ∙ ap (λ (a : ℕ). new_addresses s ++ a ∷ []) (sym here)

pub adds_twice : (r s t : List NewBlock) (xs ys : List ℕ) → Adds r s xs → Adds s t ys → Adds r t (xs ++ ys)
adds_twice r s t xs ys one two = two ∙ ap (λ (l : List ℕ). l ++ ys) one ∙ append_assoc (new_addresses r) xs ys

pub adds_if : (s t : List NewBlock) (b : Bool) (p : Pointer) → b ≡ true → Adds s t (p.address ∷ []) → Adds s t (address_if b p)
adds_if s t b p e one = rw e one

pub adds_not : (s : List NewBlock) (b : Bool) (p : Pointer) → b ≡ false → Adds s s (address_if b p)
adds_not s b p e = rw e (adds_none s)

-- pointers one after another: those below a number, and then the next
range_more : (n : ℕ) → range_with_len 0 (n + 1) ≡ range_with_len 0 n ++ n ∷ []
range_more n = sym (map-id _) ∙ map-range_with_len_more (λ (k : ℕ). k) 0 n n (omega arith) ∙ ap (λ (l : List ℕ). l ++ n ∷ []) (map-id _)

same_below : (p : ℕ → Bool) (f g : ℕ → Pointer) (a n : ℕ) → ((r : ℕ) → r < a + n → f r ≡ g r)
    → map (λ i. (f i).address) (filter p (range_with_len a n)) ≡ map (λ i. (g i).address) (filter p (range_with_len a n))
same_below p f g a zero same = refl
same_below p f g a (suc n) same =
    let rest = same_below p f g (a + 1) n (λ r low. same r (omega arith)) in
    let here : f a ≡ g a = same a (omega arith) in
    elim (p a) as (λ b. map (λ i. (f i).address) (cond b (a ∷ filter p (range_with_len (a + 1) n)) (filter p (range_with_len (a + 1) n)))
    ≡ map (λ i. (g i).address) (cond b (a ∷ filter p (range_with_len (a + 1) n)) (filter p (range_with_len (a + 1) n)))) [
      | true ↦ rw (here, rest) refl
      | false ↦ rest
    ]

pub addresses_more : (p : ℕ → Bool) (f g : ℕ → Pointer) (n : ℕ) → ((r : ℕ) → r < n → f r ≡ g r) → addresses_where p g (n + 1) ≡ addresses_where p f n ++ address_if (p n) (g n)
unfolding addresses_where
addresses_more p f g n same =
    let of = λ (l : List ℕ). map (λ i. (g i).address) (filter p l) in
    ap of (range_more n) ∙ ap (map (λ i. (g i).address)) (filter-append p (range_with_len 0 n) (n ∷ [])) ∙ map-append (λ i. (g i).address) (filter p (range_with_len 0 n)) (filter p (n ∷ []))
    ∙ ap (λ (l : List ℕ). l ++ of (n ∷ [])) (sym (same_below p f g 0 n (λ r low. same r (omega arith))))
    ∙ ap (λ (l : List ℕ). map (λ i. (f i).address) (filter p (range_with_len 0 n)) ++ l) (last (p n))
  where
    last : (b : Bool) → map (λ i. (g i).address) (cond b (n ∷ []) []) ≡ address_if b (g n)
    last true = refl
    last false = refl

pub adds_push : (p : ℕ → Bool) (first s t : List NewBlock) (pointers : List Pointer) (i : ℕ) (b : Bool) (new : Pointer) → length pointers ≡ i → b ≡ p i
    → Adds first s (addresses_where p (λ r. slice_index_or pointers r no_pointer) i) → Adds s t (address_if b new)
    → Adds first t (addresses_where p (λ r. slice_index_or (pointers ++ new ∷ []) r no_pointer) (i + 1))
adds_push p first s t pointers i b new long is before more =
    let last : slice_index_or (pointers ++ new ∷ []) i no_pointer ≡ new = rw (← long) (last_of pointers new no_pointer) in
    let same : (r : ℕ) → r < i → slice_index_or pointers r no_pointer ≡ slice_index_or (pointers ++ new ∷ []) r no_pointer = λ r low. sym (front_of pointers new no_pointer r (omega (arith, long))) in
    adds_twice first s t _ _ before more
    ∙ ap (λ (l : List ℕ). new_addresses first ++ l)
    (ap (λ (c : Bool). addresses_where p (λ r. slice_index_or pointers r no_pointer) i ++ address_if c new) is
    ∙ ap (λ (q : Pointer). addresses_where p (λ r. slice_index_or pointers r no_pointer) i ++ address_if (p i) q) (sym last)
    ∙ sym (addresses_more p _ _ i same))

pub adds_begun : (p : ℕ → Bool) (pointers : ℕ → Pointer) (s : List NewBlock) → Adds s s (addresses_where p pointers 0)
unfolding addresses_where
adds_begun p pointers s = adds_none s

-- no block of an object without dirty records
pub none_passes : (p : ℕ → Bool) → ((r : ℕ) → p r ≡ false) → (xs : List ℕ) → filter p xs ≡ []
none_passes p none [] = refl
none_passes p none (x ∷ xs) = rw (none x) (none_passes p none xs)

pub none_of : {A : Type 0} (p : A → Bool) → ((r : A) → p r ≡ false) → (xs : List A) → list_any p xs ≡ false
none_of p none [] = refl
none_of p none (x ∷ xs) = rw (none x) (none_of p none xs)

pub no_addresses : (p : ℕ → Bool) (f : ℕ → Pointer) (count : ℕ) → ((r : ℕ) → p r ≡ false) → addresses_where p f count ≡ []
unfolding addresses_where
no_addresses p f count none = ap (map (λ i. (f i).address)) (none_passes p none _)

-- those of the first strips of an object, and then those of the next one
strips_same : (q : ℕ → ℕ → Bool) (f g : ℕ → ℕ → Pointer) (a n : ℕ) → ((j k : ℕ) → j < a + n → k < pointer_count → f j k ≡ g j k)
    → flat_map (λ j. addresses_where (q j) (f j) pointer_count) (range_with_len a n) ≡ flat_map (λ j. addresses_where (q j) (g j) pointer_count) (range_with_len a n)
unfolding addresses_where
strips_same q f g a zero same = refl
strips_same q f g a (suc n) same =
    let here = same_below (q a) (f a) (g a) 0 pointer_count (λ k low. same a k (omega arith) (omega (arith, low))) in
    let rest = strips_same q f g (a + 1) n (λ j k low below. same j k (omega (arith, low)) below) in
    (λ x. here x ++ rest x)

pub strip_addresses_more : (q : ℕ → ℕ → Bool) (f g : ℕ → ℕ → Pointer) (n : ℕ) → ((j k : ℕ) → j < n → k < pointer_count → f j k ≡ g j k)
    → strip_addresses q g (n + 1) ≡ strip_addresses q f n ++ addresses_where (q n) (g n) pointer_count
unfolding strip_addresses
strip_addresses_more q f g n same =
    let of : List ℕ → List ℕ = flat_map (λ j. addresses_where (q j) (g j) pointer_count) in
    ap of (range_more n) ∙ flat_map-append (λ j. addresses_where (q j) (g j) pointer_count) (range_with_len 0 n) (n ∷ [])
    ∙ ap (λ (l : List ℕ). l ++ of (n ∷ [])) (sym (strips_same q f g 0 n (λ j k low below. same j k (omega (arith, low)) below)))
    ∙ ap (λ (l : List ℕ). flat_map (λ j. addresses_where (q j) (f j) pointer_count) (range_with_len 0 n) ++ l) (append-nil (addresses_where (q n) (g n) pointer_count))

pub strips_begun : (q : ℕ → ℕ → Bool) (f : ℕ → ℕ → Pointer) (s : List NewBlock) → Adds s s (strip_addresses q f 0)
unfolding strip_addresses
strips_begun q f s = adds_none s

-- tests that agree on the numbers of a block's pointers
pub same_filter : (p q : ℕ → Bool) (count : ℕ) → ((k : ℕ) → k < count → p k ≡ q k) → filter p (range_with_len 0 count) ≡ filter q (range_with_len 0 count)
same_filter p q count same = filter_same p q (range_with_len 0 count) (λ i k at. same k (let to = (in-range 0 count i k at).1 in omega (arith, to)))

pub addresses_same : (p q : ℕ → Bool) (f : ℕ → Pointer) (count : ℕ) → ((k : ℕ) → k < count → p k ≡ q k) → addresses_where p f count ≡ addresses_where q f count
unfolding addresses_where
addresses_same p q f count same = ap (λ (l : List ℕ). map (λ i. (f i).address) l) (same_filter p q count same)

pub addresses_equal : (p : ℕ → Bool) (f g : ℕ → Pointer) (count : ℕ) → ((k : ℕ) → k < count → f k ≡ g k) → addresses_where p f count ≡ addresses_where p g count
unfolding addresses_where
addresses_equal p f g count same = same_below p f g 0 count (λ k low. same k (omega (arith, low)))

pub strip_addresses_same : (p q : ℕ → ℕ → Bool) (f g : ℕ → ℕ → Pointer) (count : ℕ) → ((j k : ℕ) → j < count → k < pointer_count → p j k ≡ q j k) → ((j k : ℕ) → j < count → k < pointer_count → f j k ≡ g j k)
    → strip_addresses p f count ≡ strip_addresses q g count
unfolding strip_addresses
strip_addresses_same p q f g count marks same =
    flat_map-same (λ j. addresses_where (p j) (f j) pointer_count) (λ j. addresses_where (q j) (g j) pointer_count) (range_with_len 0 count)
    (λ i j at. let to = (in-range 0 count i j at).1 in
    let low : j < count = omega (arith, to) in
    addresses_same (p j) (q j) (f j) pointer_count (λ k below. marks j k low below) ∙ addresses_equal (q j) (f j) (g j) pointer_count (λ k below. same j k low below))

-- and pointers that are the same where they are marked
addresses_marked : (p : ℕ → Bool) (f g : ℕ → Pointer) (a n : ℕ) → ((k : ℕ) → k < a + n → p k ≡ true → f k ≡ g k)
    → map (λ i. (f i).address) (filter p (range_with_len a n)) ≡ map (λ i. (g i).address) (filter p (range_with_len a n))
addresses_marked p f g a zero same = refl
addresses_marked p f g a (suc n) same =
    let rest = addresses_marked p f g (a + 1) n (λ k low is. same k (omega (arith, low)) is) in
    elim (p a) as (λ b. p a ≡ b → map (λ i. (f i).address) (cond b (a ∷ filter p (range_with_len (a + 1) n)) (filter p (range_with_len (a + 1) n)))
    ≡ map (λ i. (g i).address) (cond b (a ∷ filter p (range_with_len (a + 1) n)) (filter p (range_with_len (a + 1) n)))) [
      | true ↦ λ is. let here : f a ≡ g a = same a (omega arith) is in rw (here, rest) refl
      | false ↦ λ is. rest
    ] refl

pub strip_addresses_marked : (q : ℕ → ℕ → Bool) (f g : ℕ → ℕ → Pointer) (count : ℕ) → ((j k : ℕ) → j < count → k < pointer_count → q j k ≡ true → f j k ≡ g j k) → strip_addresses q f count ≡ strip_addresses q g count
unfolding strip_addresses addresses_where
strip_addresses_marked q f g count same =
    flat_map-same (λ j. addresses_where (q j) (f j) pointer_count) (λ j. addresses_where (q j) (g j) pointer_count) (range_with_len 0 count)
    (λ i j at. let to = (in-range 0 count i j at).1 in
    let low : j < count = omega (arith, to) in
    addresses_marked (q j) (f j) (g j) 0 pointer_count (λ k k_low is. same j k low (omega (arith, k_low)) is))

no_strip_addresses : (q : ℕ → ℕ → Bool) (f : ℕ → ℕ → Pointer) (count : ℕ) → ((j k : ℕ) → q j k ≡ false) → strip_addresses q f count ≡ []
unfolding strip_addresses
no_strip_addresses q f count none = go (range_with_len 0 count)
  where
    go : (xs : List ℕ) → flat_map (λ j. addresses_where (q j) (f j) pointer_count) xs ≡ []
    go [] = refl
    go (j ∷ xs) = (λ x. no_addresses (q j) (f j) pointer_count (none j) x ++ go xs x)

pub none_written : (group : GroupChanges) (n : ℕ) (o : ObjectPointers) → ((j k : ℕ) → is_record_written group n j k ≡ false) → ((j : ℕ) → is_indirect_written group n j ≡ false) → is_top_written group n ≡ false
    → object_addresses group n o ≡ []
unfolding object_addresses
none_written group n o records indirects top =
    (λ x. no_strip_addresses (is_record_written group n) o.record_at pointer_count records x ++ no_addresses (is_indirect_written group n) o.strip pointer_count indirects x ++ address_if (top x) o.top)

-- a number of a range that passes
pub passes_at : (p : ℕ → Bool) (a n k : ℕ) → a ≤ k → k < a + n → p k ≡ true → list_any p (range_with_len a n) ≡ true
passes_at p a zero k low high is = absurd (omega arith)
passes_at p a (suc n) k low high is = elim (cases_eq a k) [
  | inl same ↦ let here : p a ≡ true = rw same is in rw here refl
  | inr other ↦ rw (passes_at p (a + 1) n k (omega (arith, other)) (omega arith) is) (or-true (p a))
]

-- what becomes of a place is told by whether something below it changes and is left
pub dirty_above : (touched left : Bool) → is_dirty (state_above touched left) ≡ (touched && left)
dirty_above true true = refl
dirty_above true false = refl
dirty_above false left = refl

not-not : (b : Bool) → not (not b) ≡ b
not-not true = refl
not-not false = refl

-- what is told of an object by its entry, and of one that has none
module _ (objects : List (ObjectId × ObjectChanges)) (pointers : Place → Pointer) (after : FinMap nat_cmp (List ℕ)) (n : ℕ) where
  abbrev entry_group : GroupChanges
  entry_group = changes_of_group objects pointers after

  abbrev levels : Bool
  levels = has_two_levels (finite.get after n)

  pub entry-state : (changes : ObjectChanges) → entry_of objects n ≡ Some changes → (r : ℕ) → state_in objects n r ≡ state_at changes r
  entry-state changes is r = ap (λ (o : Option ObjectChanges). option_map_or (λ (c : ObjectChanges). state_at c r) o Unchanged) is

  pub entry-changed : (changes : ObjectChanges) → entry_of objects n ≡ Some changes → is_changed_in objects n ≡ changes.is_changed
  entry-changed changes is = ap (λ (o : Option ObjectChanges). option_map_or (λ (c : ObjectChanges). c.is_changed) o false) is

  -- a record is written if it is dirty, since no other record of a strip without blocks is
  pub entry-written : AreInRange objects after → n < object_count → (changes : ObjectChanges) → entry_of objects n ≡ Some changes → (j k : ℕ) → j < pointer_count → k < pointer_count
      → is_record_written entry_group n j k ≡ is_dirty (kept_state levels changes j k)
  entry-written within low changes is j k j_low k_low = by (may_have_blocks levels changes.is_changed j) refl
    where
      by : (b : Bool) → may_have_blocks levels changes.is_changed j ≡ b → is_record_written entry_group n j k ≡ is_dirty (if b then state_at changes (record_of_strip j k) else Hole)
      by true e = ap is_dirty (entry-state changes is (record_of_strip j k))
      by false e = within.strips n j k low j_low k_low (ap (λ (c : Bool). may_have_blocks levels c j) (entry-changed changes is) ∙ e)

  module _ (changes : ObjectChanges) (was : ObjectPointers) (is : entry_of objects n ≡ Some changes) where
    abbrev some_left : ℕ → Bool
    some_left j = list_any (λ k. has_block_after (state_at changes (record_of_strip j k)) (has_address (was.record_at j k))) pointer_numbers

    entry-touched : (j : ℕ) → is_strip_changed entry_group n j ≡ is_strip_touched changes j
    entry-touched j = (λ x. list_any (λ k. not (is_unchanged (entry-state changes is (record_of_strip j k) x))) pointer_numbers)

    entry-left : ((j k : ℕ) → pointers (Data (strip_number n j) k) ≡ was.record_at j k) → (j : ℕ) → has_strip_after entry_group n j ≡ some_left j
    entry-left records_are j = (λ x. list_any (λ k. has_block_after (entry-state changes is (record_of_strip j k) x) (has_address (records_are j k x))) pointer_numbers)

    -- so is an indirect block
    pub entry-indirect : ((j k : ℕ) → pointers (Data (strip_number n j) k) ≡ was.record_at j k) → (j : ℕ) → is_indirect_written entry_group n j ≡ is_dirty (strip_state levels changes was j)
    entry-indirect records_are j = by levels
      where
        first : (m : Bool) → (m && some_left j) ≡ (m && list_any (λ k. has_block_after (if m then state_at changes (record_of_strip j k) else Hole) (has_address (was.record_at j k))) pointer_numbers)
        first true = refl
        first false = refl

        by : (b : Bool) → ((if b then is_strip_changed entry_group n j else (j == 0) && is_changed_in objects n) && has_strip_after entry_group n j) ≡ is_dirty (strip_state b changes was j)
        by true = (λ x. entry-touched j x && entry-left records_are j x) ∙ sym (dirty_above (not (not (is_strip_touched changes j))) (some_left j) ∙ ap (λ (b : Bool). b && some_left j) (not-not (is_strip_touched changes j)))
        by false = (λ x. ((j == 0) && entry-changed changes is x) && entry-left records_are j x) ∙ first ((j == 0) && changes.is_changed)
            ∙ sym (dirty_above true (may_have_blocks false changes.is_changed j && has_record_left false changes was j))

    kept_as : (touched left had : Bool) → (if touched then left else had) ≡ has_block_after (state_above (not (not touched)) left) had
    kept_as true true had = refl
    kept_as true false had = refl
    kept_as false left had = refl

    -- and so is a top
    pub entry-top : ((j k : ℕ) → pointers (Data (strip_number n j) k) ≡ was.record_at j k) → ((j : ℕ) → pointers (Indirect (strip_number n j)) ≡ was.strip j) → is_top_written entry_group n ≡ is_dirty (top_state levels changes was)
    entry-top records_are strips_are = by levels ∙ sym (dirty_above true ((levels && changes.is_changed) && list_any (is_strip_left levels changes was) pointer_numbers))
      where
        kept : (j : ℕ) → is_strip_kept entry_group n j ≡ is_strip_left true changes was j
        kept j = (λ x. if entry-touched j x then entry-left records_are j x else has_address (strips_are j x)) ∙ kept_as (is_strip_touched changes j) (some_left j) (has_address (was.strip j))

        by : (b : Bool) → ((b && is_changed_in objects n) && list_any (is_strip_kept entry_group n) pointer_numbers) ≡ ((b && changes.is_changed) && list_any (is_strip_left b changes was) pointer_numbers)
        by true = (λ x. entry-changed changes is x && list_any (λ j. kept j x) pointer_numbers)
        by false = refl

  pub absent-written : entry_of objects n ≡ None → (j k : ℕ) → is_record_written entry_group n j k ≡ false
  absent-written none j k = ap (λ (o : Option ObjectChanges). is_dirty (option_map_or (λ (c : ObjectChanges). state_at c (record_of_strip j k)) o Unchanged)) none

  absent-changed : entry_of objects n ≡ None → (j : ℕ) → is_strip_changed entry_group n j ≡ false
  absent-changed none j = (λ x. list_any (λ k. not (is_unchanged (option_map_or (λ (c : ObjectChanges). state_at c (record_of_strip j k)) (none x) Unchanged))) pointer_numbers) ∙ none_of (λ k. false) (λ k. refl) pointer_numbers

  absent-change : entry_of objects n ≡ None → is_changed_in objects n ≡ false
  absent-change none = ap (λ (o : Option ObjectChanges). option_map_or (λ (c : ObjectChanges). c.is_changed) o false) none

  pub absent-indirect_written : entry_of objects n ≡ None → (j : ℕ) → is_indirect_written entry_group n j ≡ false
  absent-indirect_written none j = (λ x. (if levels then absent-changed none j x else (j == 0) && absent-change none x) && has_strip_after entry_group n j) ∙ by levels (j == 0)
    where
      by : (b c : Bool) → ((if b then false else c && false) && has_strip_after entry_group n j) ≡ false
      by true c = refl
      by false true = refl
      by false false = refl

  pub absent-top : entry_of objects n ≡ None → is_top_written entry_group n ≡ false
  absent-top none = (λ x. (levels && absent-change none x) && list_any (is_strip_kept entry_group n) pointer_numbers) ∙ ap (λ (b : Bool). b && list_any (is_strip_kept entry_group n) pointer_numbers) (and-false levels)

-- an object that is gone over
pub object_added : (group : GroupChanges) (n : ℕ) (is_long : Bool) (changes : ObjectChanges) (was new o : ObjectPointers) (s t : List NewBlock) → o ≡ new
    → ((j k : ℕ) → j < pointer_count → k < pointer_count → is_record_written group n j k ≡ is_dirty (kept_state is_long changes j k))
    → ((j : ℕ) → is_indirect_written group n j ≡ is_dirty (strip_state is_long changes was j)) → is_top_written group n ≡ is_dirty (top_state is_long changes was)
    → Adds s t (strip_addresses (λ j k. is_dirty (kept_state is_long changes j k)) new.record_at pointer_count ++ addresses_where (λ j. is_dirty (strip_state is_long changes was j)) new.strip pointer_count ++ address_if (is_dirty (top_state is_long changes was)) new.top)
    → Adds s t (object_addresses group n o)
unfolding object_addresses
object_added group n is_long changes was new o s t there records indirects top added =
    added ∙ ap (λ (l : List ℕ). new_addresses s ++ l)
    ((λ x. strip_addresses_same (λ j k. is_dirty (kept_state is_long changes j k)) (is_record_written group n) new.record_at new.record_at pointer_count (λ j k low below. sym (records j k low below)) (λ j k low below. refl) x
    ++ addresses_where (λ j. sym (indirects j) x) new.strip pointer_count ++ address_if (sym top x) new.top)
    ∙ ap (λ (q : ObjectPointers). strip_addresses (is_record_written group n) q.record_at pointer_count ++ addresses_where (is_indirect_written group n) q.strip pointer_count ++ address_if (is_top_written group n) q.top) (sym there))

-- a place after a plan has a block if its state says so
pub become-names_block : (s : Progress) (place : Place) (state : RecordState) (old new : Pointer) (Fits : List ℕ → Type 0) → HasBecome s place state old new Fits → has_address new ≡ has_block_after state (has_address old)
become-names_block s place Unchanged old new Fits same = ap has_address same
become-names_block s place Dirty old new Fits h =
    let area = h.1.in_area in
    let positive : (new.address == 0) ≡ false = ne_eqb new.address 0 (λ zero_is. let is = area.2 in omega (arith, zero_is, is)) in
    rw positive refl
become-names_block s place Hole old new Fits h = ap has_address h.none

any-range : (p : ℕ → Bool) (q : Pointer → Bool) (xs : List Pointer) (a : ℕ) → ((k : ℕ) → k < length xs → q (slice_index_or xs k no_pointer) ≡ p (a + k)) → list_any q xs ≡ list_any p (range_with_len a (length xs))
any-range p q [] a same = refl
any-range p q (x ∷ xs) a same =
    let first : q x ≡ p a = same 0 (omega arith) ∙ ap p (let e : a + 0 ≡ a = omega arith in e) in
    (λ k. first k || any-range p q xs (a + 1) (λ i low. same (suc i) (omega (arith, low)) ∙ ap p (let e : a + suc i ≡ a + 1 + i = omega arith in e)) k)

-- some of a block's pointers names a block if their states say so
pub any-told : (p : ℕ → Bool) (pointers : List Pointer) → length pointers ≡ pointer_count → ((k : ℕ) → k < pointer_count → has_address (pointer_of_list pointers k) ≡ p k) → list_any has_address pointers ≡ list_any p pointer_numbers
any-told p pointers long same =
    any-range p has_address pointers 0 (λ k low. same k (omega (arith, low, long)) ∙ ap p (let e : k ≡ 0 + k = omega arith in e))
    ∙ ap (λ (c : ℕ). list_any p (range_with_len 0 c)) long

-- the state of an indirect block over the records that were placed is the one that its object's changes say
pub indirect-told : (s : Progress) (object : ChangedObject) (j : ℕ) (bytes : List ℕ) (records : List Pointer) → length records ≡ pointer_count
    → AreRecordsPlanned s object.id.0 j bytes object.is_long object.changes.now ((old_in object).record_at j) pointer_count (pointer_of_list records)
    → state_over_records object j records ≡ strip_state object.is_long object.changes.now (old_in object) j
indirect-told s object j bytes records long planned =
    ap (λ (b : Bool). state_above (is_strip_replaced object.is_long object.changes.now j) (may_have_blocks object.is_long object.changes.now.is_changed j && b))
    (any-told (λ k. has_block_after (kept_state object.is_long object.changes.now j k) (has_address ((old_in object).record_at j k))) records long
    (λ k low. become-names_block s (Data (strip_number object.id.0 j) k) (kept_state object.is_long object.changes.now j k) ((old_in object).record_at j k) (pointer_of_list records k) _ (planned k low)))

-- the pointers of a tree in memory
pub data_before : (t : OldTree) (n : ℕ) (was : ObjectPointers) → n < object_count → t.maps n ≡ was → (j k : ℕ) → old_pointers t (Data (strip_number n j) k) ≡ was.record_at j k
data_before t n was low is j k =
    ap (λ (i : ℕ). (t.maps i).record_at (strip_of (strip_number n j)) k) (strip-object n j low) ∙ ap (λ (i : ℕ). (t.maps n).record_at i k) (strip-which n j low) ∙ ap (λ (m : ObjectPointers). m.record_at j k) is

pub strip_before : (t : OldTree) (n : ℕ) (was : ObjectPointers) → n < object_count → t.maps n ≡ was → (j : ℕ) → old_pointers t (Indirect (strip_number n j)) ≡ was.strip j
strip_before t n was low is j =
    ap (λ (i : ℕ). (t.maps i).strip (strip_of (strip_number n j))) (strip-object n j low) ∙ ap (λ (i : ℕ). (t.maps n).strip i) (strip-which n j low) ∙ ap (λ (m : ObjectPointers). m.strip j) is

-- no address of an object that no operation is on
pub absent_addresses : (objects : List (ObjectId × ObjectChanges)) (pointers : Place → Pointer) (after : FinMap nat_cmp (List ℕ)) (n : ℕ) (o : ObjectPointers) → entry_of objects n ≡ None
    → object_addresses (changes_of_group objects pointers after) n o ≡ []
absent_addresses objects pointers after n o none =
    none_written (changes_of_group objects pointers after) n o (absent-written objects pointers after n none) (absent-indirect_written objects pointers after n none) (absent-top objects pointers after n none)

-- an object that is put has the pointers that are put
pub map_put : (maps : ℕ → ObjectPointers) (old new : List (ObjectId × ObjectEntry)) (id : ObjectId) (m : ObjectEntry) → IsPut old id m new → planned_map maps new id.0 ≡ pointers_of_entry m
map_put maps old new id m put =
    ap (λ (o : Option ObjectEntry). option_map_or pointers_of_entry o (maps id.0)) (put id.0 ∙ ap (λ b. cond b (Some m) (entry_of old id.0)) (eq-eqb id.0 id.0 refl))

-- one object more: what the others have stays
same_elsewhere : {X : Type 0} (F G : ℕ → List ℕ) (n : ℕ) (done : List (ObjectId × X)) → entry_of done n ≡ None → ((k : ℕ) → (n == k) ≡ false → F k ≡ G k)
    → flat_map (λ (e : ObjectId × X). F e.0.0) done ≡ flat_map (λ (e : ObjectId × X). G e.0.0) done
same_elsewhere F G n [] none same = refl
same_elsewhere {X} F G n (x ∷ done) none same =
    elim (n == x.0.0) as (λ t. (n == x.0.0) ≡ t → cond t (Some x.1) (entry_of done n) ≡ None → F x.0.0 ++ flat_map (λ (e : ObjectId × X). F e.0.0) done ≡ G x.0.0 ++ flat_map (λ (e : ObjectId × X). G e.0.0) done) [
      | true ↦ λ is e. absurd (cc)
      | false ↦ λ is e. rw (same x.0.0 is, same_elsewhere F G n done e same) refl
    ] refl none

pub objects_added : {X : Type 0} (g : GroupChanges) (maps : ℕ → ObjectPointers) (old new : List (ObjectId × ObjectEntry)) (first s t : List NewBlock) (done : List (ObjectId × X)) (e : ObjectId × X)
    → entry_of done e.0.0 ≡ None → ((n : ℕ) → (e.0.0 == n) ≡ false → entry_of new n ≡ entry_of old n)
    → Adds first s (flat_map (λ (x : ObjectId × X). object_addresses g x.0.0 (planned_map maps old x.0.0)) done) → Adds s t (object_addresses g e.0.0 (planned_map maps new e.0.0))
    → Adds first t (flat_map (λ (x : ObjectId × X). object_addresses g x.0.0 (planned_map maps new x.0.0)) (done ++ e ∷ []))
objects_added {X} g maps old new first s t done e fresh others before more =
    let F : List (ObjectId × ObjectEntry) → ℕ → List ℕ = λ planned n. object_addresses g n (planned_map maps planned n) in
    let same : (k : ℕ) → (e.0.0 == k) ≡ false → F old k ≡ F new k = λ k other. let h = others k other in rw h refl in
    adds_twice first s t _ _ before more
    ∙ ap (λ (l : List ℕ). new_addresses first ++ (l ++ F new e.0.0)) (same_elsewhere (F old) (F new) e.0.0 done fresh same)
    ∙ ap (λ (l : List ℕ). new_addresses first ++ (flat_map (λ (x : ObjectId × X). F new x.0.0) done ++ l)) (sym (append-nil (F new e.0.0)))
    ∙ ap (λ (l : List ℕ). new_addresses first ++ l) (sym (flat_map-append (λ (x : ObjectId × X). F new x.0.0) done (e ∷ [])))

-- entries with rising numbers, from low up to high
abbrev pub IsRising : {X : Type 0} → ℕ → ℕ → List (ObjectId × X) → Type 0
IsRising low high [] = Unit {0}
IsRising low high (e ∷ es) = (low ≤ e.0.0) × (e.0.0 < high) × IsRising (e.0.0 + 1) high es

rising_absent : {X : Type 0} (es : List (ObjectId × X)) (low high n : ℕ) → IsRising low high es → n < low → entry_of es n ≡ None
rising_absent [] low high n rising below = refl
rising_absent (e ∷ es) low high n rising below =
    let behind = rising.0 in
    let other : (n == e.0.0) ≡ false = ne_eqb n e.0.0 (λ same. omega arith) in
    rw other (rising_absent es (e.0.0 + 1) high n rising.2 (omega arith))

-- what is told of each entry is told of each number, if a number without an entry has nothing
pub all_numbers : {X A : Type 0} (F : ℕ → List A) (count low high : ℕ) (es : List (ObjectId × X)) → low + count ≡ high → IsRising low high es → ((n : ℕ) → low ≤ n → entry_of es n ≡ None → F n ≡ [])
    → flat_map (λ (e : ObjectId × X). F e.0.0) es ≡ flat_map F (range_with_len low count)
all_numbers F zero low high [] sum rising none = refl
all_numbers F zero low high (e ∷ es) sum rising none = let behind = rising.0 in let below = rising.1 in absurd (omega arith)
all_numbers F (suc count) low high [] sum rising none =
    rw (none low (omega arith) refl) (all_numbers F count (low + 1) high [] (omega arith) tt (λ n behind e. none n (omega arith) e))
all_numbers {X} {A} F (suc count) low high (e ∷ es) sum rising none = elim (cases_lt low e.0.0) [
  | inl above ↦
      let next : IsRising (low + 1) high (e ∷ es) = (omega arith, rising.1, rising.2) in
      let rest = all_numbers F count (low + 1) high (e ∷ es) (omega arith) next (λ n behind absent. none n (omega arith) absent) in
      rest ∙ ap (λ (l : List A). l ++ flat_map F (range_with_len (low + 1) count)) (sym (none low (omega arith) (rising_absent (e ∷ es) (low + 1) high low next (omega arith))))
  | inr at ↦
      let behind = rising.0 in
      let same : e.0.0 ≡ low = omega arith in
      let rest = all_numbers F count (low + 1) high es (omega arith) (rw same at rising.2) (tail_none same) in
      ap (λ (n : ℕ). F n ++ flat_map (λ (e : ObjectId × X). F e.0.0) es) same ∙ ap (λ (l : List A). F low ++ l) rest
]
  where
    tail_none : e.0.0 ≡ low → (n : ℕ) → low + 1 ≤ n → entry_of es n ≡ None → F n ≡ []
    tail_none same n behind absent =
        let other : (n == e.0.0) ≡ false = ne_eqb n e.0.0 (λ is. omega arith) in
        none n (omega arith) (rw other absent)

pub less_below : (x y : ℕ) → nat_cmp x y ≡ Less → x < y
less_below x y is = elim (nat_lt x y) as (λ b. nat_lt x y ≡ b → cond b Less (cond (x == y) Equal Greater) ≡ Less → x < y) [
  | true ↦ λ below _. ltb-true x y below
  | false ↦ λ _ e. absurd (elim (x == y) as (λ b. cond b Equal Greater ≡ Less → ⊥) [ true ↦ λ f. absurd (cc) | false ↦ λ f. absurd (cc) ] e)
] refl is

-- entries of a map have rising numbers
module _ (R : ObjectId → ObjectId → Ordering) (less : (a b : ObjectId) → R a b ≡ Less → a.0 < b.0) where
  all_behind : (x : ObjectId) (ys : List ObjectId) → AllByRecursion (λ y. R x y ≡ Less) ys → AllByRecursion (λ (y : ObjectId). x.0 + 1 ≤ y.0) ys
  all_behind x [] all = tt
  all_behind x (y ∷ ys) all = let h = less x y all.0 in (omega arith, all_behind x ys all.1)

  pub rising_of : {X : Type 0} (low high : ℕ) (es : List (ObjectId × X)) → AllByRecursion (λ (y : ObjectId). low ≤ y.0) (keys_of es) → IsStrictlySortedBy R (keys_of es)
      → ((n : ℕ) → is_some (entry_of es n) ≡ true → n < high) → IsRising low high es
  unfolding IsStrictlySortedBy
  rising_of low high [] from sorted within = tt
  rising_of low high (e ∷ es) from sorted within = (
    from.0,
    within e.0.0 (rw (eq-eqb e.0.0 e.0.0 refl) refl),
    rising_of (e.0.0 + 1) high es (all_behind e.0 (keys_of es) sorted.0) sorted.1 (λ n there. within n (either n (n == e.0.0) there)),
  )
    where
      either : (n : ℕ) (b : Bool) → is_some (entry_of es n) ≡ true → is_some (cond b (Some e.1) (entry_of es n)) ≡ true
      either n true there = refl
      either n false there = there

  pub all_from_none : (ys : List ObjectId) → AllByRecursion (λ (y : ObjectId). 0 ≤ y.0) ys
  all_from_none [] = tt
  all_from_none (y ∷ ys) = (omega arith, all_from_none ys)

  pub all_added : (count : ℕ) (g : GroupChanges) (maps : ℕ → ObjectPointers) (planned : List (ObjectId × ObjectEntry)) (objects done : List (ObjectId × ObjectChanges)) (s t : List NewBlock)
      → done ≡ objects → IsStrictlySortedBy R (keys_of objects) → ((n : ℕ) → is_some (entry_of objects n) ≡ true → n < count)
      → ((n : ℕ) → entry_of objects n ≡ None → object_addresses g n (planned_map maps planned n) ≡ [])
      → Adds s t (flat_map (λ (e : ObjectId × ObjectChanges). object_addresses g e.0.0 (planned_map maps planned e.0.0)) done)
      → Adds s t (all_addresses g (planned_map maps planned) count)
  unfolding all_addresses
  all_added count g maps planned objects done s t whole sorted within nothing added =
      added ∙ ap (λ (l : List (ObjectId × ObjectChanges)). new_addresses s ++ flat_map (λ (e : ObjectId × ObjectChanges). object_addresses g e.0.0 (planned_map maps planned e.0.0)) l) whole
      ∙ ap (λ (l : List ℕ). new_addresses s ++ l) (all_numbers (λ n. object_addresses g n (planned_map maps planned n)) count 0 count objects (omega arith)
      (rising_of 0 count objects (all_from_none (keys_of objects)) sorted within)
      (λ n low absent. nothing n absent))

-- whether an object of a directory changes, by the numbers of the directory and by the keys
either_of : (p q : ℕ → Bool) (xs : List ℕ) → list_any (λ n. p n || q n) xs ≡ (list_any p xs || list_any q xs)
either_of p q [] = refl
either_of p q (x ∷ xs) = ap (λ b. (p x || q x) || b) (either_of p q xs) ∙ swapped (p x) (q x) (list_any p xs) (list_any q xs)
  where
    swapped : (a b c d : Bool) → ((a || b) || (c || d)) ≡ ((a || c) || (b || d))
    swapped true b c d = refl
    swapped false true true d = refl
    swapped false true false d = refl
    swapped false false c d = refl

is_number : (k d : ℕ) → list_any (λ n. n == k) (range_with_len (63 * d) 63) ≡ ((k / 63) == d)
is_number k d = elim ((k / 63) == d) as (λ t. ((k / 63) == d) ≡ t → list_any (λ n. n == k) (range_with_len (63 * d) 63) ≡ t) [
  | true ↦ λ is. let of : k / 63 ≡ d = eqb-true (k / 63) d is in passes_at (λ n. n == k) (63 * d) 63 k (omega arith) (omega arith) (eq-eqb k k refl)
  | false ↦ λ is. none_between (λ n. n == k) (63 * d) 63 (λ r low high. ne_eqb r k (λ same.
      let of : k / 63 ≡ d = omega arith in let there : ((k / 63) == d) ≡ true = eq-eqb (k / 63) d of in absurd (cc)))
] refl

changed_among : {X : Type 0} (xs : List ℕ) (p : ℕ → Bool) → ((k : ℕ) → list_any (λ n. n == k) xs ≡ p k) → (es : List (ObjectId × X)) → list_any (λ n. is_some (entry_of es n)) xs ≡ list_any (λ (id : ObjectId). p id.0) (keys_of es)
changed_among xs p is [] = none_of (λ n. false) (λ n. refl) xs
changed_among {X} xs p is (e ∷ es) =
    ap (λ (q : ℕ → Bool). list_any q xs) (λ k n. either (entry_of es n) (n == e.0.0) k) ∙ either_of (λ n. n == e.0.0) (λ n. is_some (entry_of es n)) xs
    ∙ ap (λ b. b || list_any (λ n. is_some (entry_of es n)) xs) (is e.0.0) ∙ ap (λ b. p e.0.0 || b) (changed_among xs p is es)
  where
    either : (o : Option X) (b : Bool) → is_some (cond b (Some e.1) o) ≡ (b || is_some o)
    either o true = refl
    either o false = refl

pub entries-touched : (objects : List (ObjectId × ObjectChanges)) (d : ℕ) → list_any (λ n. is_some (entry_of objects n)) (object_numbers d) ≡ is_directory_touched objects d
entries-touched objects d = changed_among (range_with_len (63 * d) 63) (λ k. (k / 63) == d) (λ k. is_number k d) objects

-- an object changes exactly if a directory of it does
pub any_directory : (count : ℕ) (objects : List (ObjectId × ObjectChanges)) → ((n : ℕ) → is_some (entry_of objects n) ≡ true → n / 63 < count) → list_any (is_directory_touched objects) (range_with_len 0 count) ≡ is_any_touched objects
any_directory count [] within = none_of (λ n. false) (λ n. refl) (range_with_len 0 count)
any_directory count (e ∷ es) within =
    let number : (e.0.0 == e.0.0) ≡ true = eq-eqb e.0.0 e.0.0 refl in
    let directory : ((e.0.0 / 63) == (e.0.0 / 63)) ≡ true = eq-eqb (e.0.0 / 63) (e.0.0 / 63) refl in
    let some : (suc (length es) == 0) ≡ false = ne_eqb (suc (length es)) 0 (λ same. omega arith) in
    let low : e.0.0 / 63 < count = within e.0.0 (rw number refl) in
    passes_at (is_directory_touched (e ∷ es)) 0 count (e.0.0 / 63) (omega arith) (omega arith) (rw directory refl) ∙ sym (rw some refl)

-- the addresses of places, one for each
map-flat_map : {A B C : Type 0} (f : B → C) (g : A → List B) (h : A → List C) (xs : List A) → ((i : ℕ) (a : A) → slice_get xs i ≡ Some a → map f (g a) ≡ h a) → map f (flat_map g xs) ≡ flat_map h xs
map-flat_map f g h [] same = refl
map-flat_map f g h (x ∷ xs) same = map-append f (g x) (flat_map g xs) ∙ ap (λ l. l ++ map f (flat_map g xs)) (same zero x refl) ∙ ap (λ l. h x ++ l) (map-flat_map f g h xs (λ i a at. same (suc i) a at))

module _ (root : Pointer) (directories : List Pointer) (map_of : ℕ → ObjectPointers) where
  abbrev address_at : Place → ℕ
  address_at place = (pointers_by root directories map_of place).address

  abbrev directory_at : ℕ → Pointer
  directory_at d = pointer_of_list directories d

  module _ (n : ℕ) (low : n < object_count) where
    of_data : (j k : ℕ) → address_at (Data (strip_number n j) k) ≡ ((map_of n).record_at j k).address
    of_data j k = ap (λ (i : ℕ). ((map_of i).record_at (strip_of (strip_number n j)) k).address) (strip-object n j low) ∙ ap (λ (i : ℕ). ((map_of n).record_at i k).address) (strip-which n j low)

    of_indirect : (j : ℕ) → address_at (Indirect (strip_number n j)) ≡ ((map_of n).strip j).address
    of_indirect j = ap (λ (i : ℕ). ((map_of i).strip (strip_of (strip_number n j))).address) (strip-object n j low) ∙ ap (λ (i : ℕ). ((map_of n).strip i).address) (strip-which n j low)

    of_top : (b : Bool) → map address_at (if b then Top n ∷ [] else []) ≡ address_if b (map_of n).top
    of_top true = refl
    of_top false = refl

    of_strip : (g : GroupChanges) (j : ℕ) → map address_at (places_of_strip g n j) ≡ addresses_where (is_record_written g n j) ((map_of n).record_at j) pointer_count
    unfolding addresses_where
    of_strip g j = map-map address_at (λ k. Data (strip_number n j) k) (filter (is_record_written g n j) pointer_numbers) ∙ (λ x. map (λ k. of_data j k x) (filter (is_record_written g n j) pointer_numbers))

    of_indirects : (g : GroupChanges) → map address_at (map (λ j. Indirect (strip_number n j)) (filter (is_indirect_written g n) pointer_numbers)) ≡ addresses_where (is_indirect_written g n) (map_of n).strip pointer_count
    unfolding addresses_where
    of_indirects g = map-map address_at (λ j. Indirect (strip_number n j)) (filter (is_indirect_written g n) pointer_numbers) ∙ (λ x. map (λ j. of_indirect j x) (filter (is_indirect_written g n) pointer_numbers))

    of_object : (g : GroupChanges) → map address_at (places_of_object g n) ≡ object_addresses g n (map_of n)
    unfolding object_addresses strip_addresses
    of_object g =
        let records : List Place = flat_map (places_of_strip g n) pointer_numbers in
        let indirects : List Place = map (λ j. Indirect (strip_number n j)) (filter (is_indirect_written g n) pointer_numbers) in
        let top : List Place = if is_top_written g n then Top n ∷ [] else [] in
        map-append address_at (records ++ indirects) top ∙ ap (λ l. l ++ map address_at top) (map-append address_at records indirects)
        ∙ (λ x. map-flat_map address_at (places_of_strip g n) (λ j. addresses_where (is_record_written g n j) ((map_of n).record_at j) pointer_count) pointer_numbers (λ i j at. of_strip g j) x
        ++ of_indirects g x ++ of_top (is_top_written g n) x)

  of_objects : (g : GroupChanges) (count : ℕ) → count ≤ object_count → map address_at (flat_map (places_of_object g) (range_with_len 0 count)) ≡ all_addresses g map_of count
  unfolding all_addresses
  of_objects g count within = map-flat_map address_at (places_of_object g) (λ n. object_addresses g n (map_of n)) (range_with_len 0 count)
      (λ i n at. of_object n (let to = (in-range 0 count i n at).1 in omega (arith, to, within)) g)

  of_directories : (touched : ℕ → Bool) (count : ℕ) → map address_at (map (λ d. Directory d) (filter touched (range_with_len 0 count))) ≡ addresses_where touched directory_at count
  unfolding addresses_where
  of_directories touched count = map-map address_at (λ d. Directory d) (filter touched (range_with_len 0 count))

  of_root : (b : Bool) → map address_at (if b then Root ∷ [] else []) ≡ address_if b root
  of_root true = refl
  of_root false = refl

  of_all : (g : GroupChanges) (written : ℕ → Bool) (count directory_count : ℕ) (b : Bool) → count ≤ object_count
      → map address_at (flat_map (places_of_object g) (range_with_len 0 count) ++ map (λ k. Directory k) (filter written (range_with_len 0 directory_count)) ++ (if b then Root ∷ [] else []))
      ≡ all_addresses g map_of count ++ addresses_where written directory_at directory_count ++ address_if b root
  of_all g written count directory_count b within =
      let objects = flat_map (places_of_object g) (range_with_len 0 count) in
      let middle = map (λ k. Directory k) (filter written (range_with_len 0 directory_count)) in
      let top : List Place = if b then Root ∷ [] else [] in
      map-append address_at (objects ++ middle) top ∙ ap (λ l. l ++ map address_at top) (map-append address_at objects middle ∙ ap (λ l. l ++ map address_at middle) (of_objects g count within)
      ∙ ap (λ l. all_addresses g map_of count ++ l) (of_directories written directory_count))
      ∙ ap (λ l. all_addresses g map_of count ++ addresses_where written directory_at directory_count ++ l) (of_root b)

-- of a whole walk, the directories and the root that are written are those that the definitions write
module _ (objects : List (ObjectId × ObjectChanges)) (pointers : Place → Pointer) (after : FinMap nat_cmp (List ℕ)) where
  abbrev whole_group : GroupChanges
  whole_group = changes_of_group objects pointers after

  or_emptied : (any all touched left : Bool) → (left ≡ true → all ≡ true) → (((any && not all) || touched) && left) ≡ (touched && left)
  or_emptied any all touched false follows = and-false ((any && not all) || touched) ∙ sym (and-false touched)
  or_emptied any true touched true follows = ap (λ (b : Bool). (b || touched) && true) (and-false any)
  or_emptied any false touched true follows = absurd (let no_way : false ≡ true = follows refl in cc)

  -- a directory with an object is one of those with an object
  pub left-left : (d : ℕ) → d < 84 → has_object after d ≡ true → has_objects after ≡ true
  left-left d low is = passes_at (has_object after) 0 84 d (omega arith) (omega (arith, low)) is

  pub directory-written : (d : ℕ) → d < 84 → is_directory_written whole_group d ≡ is_directory_dirty objects after d
  directory-written d low =
      ap (λ (b : Bool). b && has_object after d) (entries-touched objects d)
      ∙ sym (dirty_above (is_directory_replaced objects after d) (has_object after d) ∙ or_emptied (is_any_touched objects) (has_objects after) (is_directory_touched objects d) (has_object after d) (left-left d low))

  -- an object that is there is one of a directory's
  left-any : list_any (λ n. finite.contains_key after n) (range_with_len 0 5292) ≡ has_objects after
  left-any = one_truth (list_any (λ n. finite.contains_key after n) (range_with_len 0 5292)) (has_objects after)
      (λ is.
      let one = any_found (λ n. finite.contains_key after n) (range_with_len 0 5292) is in
      let n = one.1 in
      let low : n < 5292 = (let to = (in-range 0 5292 one.0 n one.2).1 in omega (arith, to)) in
      left-left (n / 63) (omega (arith, low)) (passes_at (λ k. finite.contains_key after k) (63 * (n / 63)) 63 n (omega arith) (omega arith) one.3))
      (λ is.
      let one = any_found (has_object after) (range_with_len 0 84) is in
      let d = one.1 in
      let low : d < 84 = (let to = (in-range 0 84 one.0 d one.2).1 in omega (arith, to)) in
      let two = any_found (λ n. finite.contains_key after n) (object_numbers d) one.3 in
      let to = (in-range (63 * d) 63 two.0 two.1 two.2).1 in
      passes_at (λ n. finite.contains_key after n) 0 5292 two.1 (omega arith) (omega (arith, low, to)) two.3)

  pub root-written : AreInRange objects after → is_root_written whole_group ≡ is_dirty (root_state objects after)
  root-written within =
      (λ k. any-same (told.is_directory_touched whole_group) (is_directory_touched objects) (range_with_len 0 84) (λ i d at. entries-touched objects d) k && left-any k)
      ∙ ap (λ (b : Bool). b && has_objects after) (any_directory 84 objects (λ n there. let low = within.numbers n there in omega (arith, low)))
      ∙ sym (dirty_above (is_any_touched objects) (has_objects after))

  -- the same directories
  pub written-directories : filter (is_directory_written whole_group) (range_with_len 0 84) ≡ filter (is_directory_dirty objects after) (range_with_len 0 84)
  written-directories = filter_same (is_directory_written whole_group) (is_directory_dirty objects after) (range_with_len 0 84) (λ i d at. directory-written d (let to = (in-range 0 84 i d at).1 in omega (arith, to)))

  -- the blocks of a whole walk are those of the places that are written, in their order
  pub tree_in_order : (maps : ℕ → ObjectPointers) (planned : List (ObjectId × ObjectEntry)) (directories : List Pointer) (root : Pointer) (first one two three : List NewBlock)
      → first ≡ [] → AreInRange objects after → Adds first one (all_addresses whole_group (planned_map maps planned) 5292)
      → Adds one two (addresses_where (is_directory_dirty objects after) (λ d. slice_index_or directories d no_pointer) 84) → Adds two three (address_if (is_dirty (root_state objects after)) root)
      → AreInOrder (new_addresses three) (pointers_by root directories (planned_map maps planned)) whole_group
  unfolding AreInOrder addresses_where
  tree_in_order maps planned directories root first one two three none within a b c =
      let of : List ℕ → List ℕ = λ l. map (λ d. (slice_index_or directories d no_pointer).address) l in
      let all : List ℕ = all_addresses whole_group (planned_map maps planned) 5292 in
      adds_twice first two three _ _ (adds_twice first one two _ _ a b) c
      ∙ ap (λ (l : List NewBlock). new_addresses l ++ (all ++ of (filter (is_directory_dirty objects after) (range_with_len 0 84)) ++ address_if (is_dirty (root_state objects after)) root)) none
      ∙ ap (λ (l : List ℕ). all ++ of l ++ address_if (is_dirty (root_state objects after)) root) (sym written-directories)
      ∙ ap (λ (t : Bool). all ++ of (filter (is_directory_written whole_group) (range_with_len 0 84)) ++ address_if t root) (sym (root-written within))
      ∙ sym (of_all root directories (planned_map maps planned) whole_group (is_directory_written whole_group) 5292 84 (is_root_written whole_group) (omega arith))

-- told of the blocks as they are planned
pub planned_in_order : (blocks : List PlannedBlock) (pointers : Place → Pointer) (group : GroupChanges) → AreInOrder (new_addresses (map new_block blocks)) pointers group
    → map address_of blocks ≡ map (λ (place : Place). (pointers place).address) (written_by group)
unfolding AreInOrder
planned_in_order blocks pointers group in_order = sym (map-map (λ (b : NewBlock). b.address) new_block blocks) ∙ in_order
