-- Which places a sync writes is told by what its group makes of the records and objects of a tree, all of which are in
-- range.
use Rattle.std.proofs.Common.{◌≡◌, ℕ, zero, suc, ◌+◌, ◌*◌, ◌<◌, ◌≤◌, Bool, true, not, ◌&&◌, ◌||◌, List, [], ◌∷◌, ◌++◌, length, map, filter, Some, Ok, inl, inr, refl, ap, sym, subst, ◌∙◌, arith}
use Rattle.std.specs.Prelude.{All, ◌==◌, nat_le, nat_lt, slice_get, is_some, if◌then◌else◌}
use Rattle.std.specs.List.{list_all, list_any, flat_map, range_with_len}
use Rattle.std.proofs.lemmas.Bool.{and_parts, eqb-true, false≢true, ltb-true, or_cases}
use Rattle.std.proofs.lemmas.List.Folds.{list_any-append}
use Rattle.std.proofs.lemmas.List.Elements.{All-nil, All-append}
use Rattle.std.specs.FinMap as finite
use Rattle.base.specs.declared.operation.Op.{Op}
use Rattle.base.specs.declared.operation.Op.TheVariants.{Create, Remove, Write, SetLength, SetName}
use Rattle.base.specs.declared.record_state.RecordState.TheVariants.{Unchanged}
use Rattle.base.specs.formats.Limits.{object_count, indirect_count, record_count, max_length, pointer_count, entry_count}
use Rattle.base.specs.history.Contents.{Contents}
use Rattle.base.specs.history.History.{Entry, IsWithin, apply_all, entries_in}
use Rattle.base.specs.history.Past.{Past}
use Rattle.base.specs.history.Plans.{IsRange, NumberRange, is_shape_allowed, ranges, shape_of, touched}
use Rattle.base.specs.steps.Tables.{AreTablesExplained}
use Rattle.base.specs.steps.Shown.{Shown}
use Rattle.base.specs.steps.Steps.{ops_of_group}
use Rattle.base.specs.tree.Places.{Place, strip_number, record_of_strip}
use Rattle.base.specs.tree.Places.Place.{Root, Directory, Top, Indirect, Data}
use Rattle.base.specs.tree.Syncs.{GroupChanges, record_state, is_on, is_change_of, is_dirty, is_unchanged, has_block_after, is_long_object, pointer_numbers, object_numbers, is_record_written, has_record_after, is_strip_changed, has_strip_after, is_strip_kept, is_indirect_written, is_top_written, is_directory_touched, is_directory_written, is_root_written, places_of_strip, places_of_object, written_by, written_places, group_changes}
use Rattle.base.proofs.common.KeptLists.{All-at, none_at, at_filter, filter_same, Some-injective}
use Rattle.base.proofs.tree.Strips.{strip-low, record-low}
use Rattle.base.proofs.tree.RecordStates.{contents-after_all}

-- two functions that agree on a list's elements make the same of it, and so do two tests
pub flat_map-same : {A B : Type 0} (f g : A → List B) (xs : List A) → ((i : ℕ) (x : A) → slice_get xs i ≡ Some x → f x ≡ g x) → flat_map f xs ≡ flat_map g xs
flat_map-same f g [] agree = refl
flat_map-same f g (x ∷ xs) agree = (λ k. agree zero x refl k ++ flat_map-same f g xs (λ i y at. agree (suc i) y at) k)

pub any-same : {A : Type 0} (p q : A → Bool) (xs : List A) → ((i : ℕ) (x : A) → slice_get xs i ≡ Some x → p x ≡ q x) → list_any p xs ≡ list_any q xs
any-same p q [] agree = refl
any-same p q (x ∷ xs) agree = (λ k. agree zero x refl k || any-same p q xs (λ i y at. agree (suc i) y at) k)

-- of the numbers in a row each is within their bounds
pub in-range : (low count i n : ℕ) → slice_get (range_with_len low count) i ≡ Some n → (low ≤ n) × (n < low + count)
in-range low zero i n at = absurd (none_at i n at)
in-range low (suc count) zero n at =
    let e : low ≡ n = Some-injective at in
    (omega (arith, e), omega (arith, e))
in-range low (suc count) (suc i) n at =
    let later = in-range (low + 1) count i n at in
    let from = later.0 in
    let to = later.1 in
    (omega (arith, from), omega (arith, to))

pub in-first : (count i n : ℕ) → slice_get (range_with_len 0 count) i ≡ Some n → n < count
in-first count i n at = let to = (in-range 0 count i n at).1 in omega (arith, to)

-- the objects of a directory are below the last number
in-directory : (d i n : ℕ) → d < pointer_count → slice_get (object_numbers d) i ≡ Some n → n < object_count
in-directory d i n low at = let to = (in-range (entry_count * d) entry_count i n at).1 in omega (arith, low, to)

-- two that agree on each record and object of a tree
pub record AgreeInRange (one other : GroupChanges) : Type 0 where
  pub states : (n r : ℕ) → n < object_count → r < record_count → one.state n r ≡ other.state n r
  pub blocks : (m k : ℕ) → m < indirect_count → k < pointer_count → one.had_block (Data m k) ≡ other.had_block (Data m k)
  pub strips : (m : ℕ) → m < indirect_count → one.had_block (Indirect m) ≡ other.had_block (Indirect m)
  pub changed : (n : ℕ) → n < object_count → one.is_changed n ≡ other.is_changed n
  pub touched : (n : ℕ) → n < object_count → one.is_touched n ≡ other.is_touched n
  pub present : (n : ℕ) → n < object_count → one.is_present n ≡ other.is_present n
  pub long : (n : ℕ) → n < object_count → one.is_long n ≡ other.is_long n

module _ (one other : GroupChanges) (agree : AgreeInRange one other) where
  module _ (n : ℕ) (low : n < object_count) where
    module _ (j : ℕ) (j_low : j < pointer_count) where
      same-state : (i k : ℕ) → slice_get pointer_numbers i ≡ Some k → one.state n (record_of_strip j k) ≡ other.state n (record_of_strip j k)
      same-state i k at = agree.states n (record_of_strip j k) low (record-low j k j_low (in-first pointer_count i k at))

      same-records : filter (is_record_written one n j) pointer_numbers ≡ filter (is_record_written other n j) pointer_numbers
      same-records = filter_same (is_record_written one n j) (is_record_written other n j) pointer_numbers (λ i k at. ap is_dirty (same-state i k at))

      same-strip : places_of_strip one n j ≡ places_of_strip other n j
      same-strip = ap (λ (l : List ℕ). map (λ k. Data (strip_number n j) k) l) same-records

      same-changed : is_strip_changed one n j ≡ is_strip_changed other n j
      same-changed = any-same (λ k. not (is_unchanged (one.state n (record_of_strip j k)))) (λ k. not (is_unchanged (other.state n (record_of_strip j k)))) pointer_numbers
          (λ i k at. ap (λ s. not (is_unchanged s)) (same-state i k at))

      same-after : has_strip_after one n j ≡ has_strip_after other n j
      same-after = any-same (has_record_after one n j) (has_record_after other n j) pointer_numbers
          (λ i k at. (λ x. has_block_after (same-state i k at x) (agree.blocks (strip_number n j) k (strip-low n j low j_low) (in-first pointer_count i k at) x)))

      same-kept : is_strip_kept one n j ≡ is_strip_kept other n j
      same-kept = (λ x. if same-changed x then same-after x else agree.strips (strip_number n j) (strip-low n j low j_low) x)

      same-indirect : is_indirect_written one n j ≡ is_indirect_written other n j
      same-indirect = (λ x. (if agree.long n low x then same-changed x else (j == 0) && agree.changed n low x) && same-after x)

    same-strips : flat_map (places_of_strip one n) pointer_numbers ≡ flat_map (places_of_strip other n) pointer_numbers
    same-strips = flat_map-same (places_of_strip one n) (places_of_strip other n) pointer_numbers (λ i j at. same-strip j (in-first pointer_count i j at))

    same-indirects : filter (is_indirect_written one n) pointer_numbers ≡ filter (is_indirect_written other n) pointer_numbers
    same-indirects = filter_same (is_indirect_written one n) (is_indirect_written other n) pointer_numbers (λ i j at. same-indirect j (in-first pointer_count i j at))

    same-top : is_top_written one n ≡ is_top_written other n
    same-top = (λ x. (agree.long n low x && agree.changed n low x)
        && any-same (is_strip_kept one n) (is_strip_kept other n) pointer_numbers (λ i j at. same-kept j (in-first pointer_count i j at)) x)

    same-object : places_of_object one n ≡ places_of_object other n
    same-object = (λ x. same-strips x ++ map (λ j. Indirect (strip_number n j)) (same-indirects x) ++ (if same-top x then Top n ∷ [] else []))

  same-touched : (d : ℕ) → d < pointer_count → is_directory_touched one d ≡ is_directory_touched other d
  same-touched d low = any-same one.is_touched other.is_touched (object_numbers d) (λ i n at. agree.touched n (in-directory d i n low at))

  same-directory : (d : ℕ) → d < pointer_count → is_directory_written one d ≡ is_directory_written other d
  same-directory d low = (λ k. same-touched d low k && any-same one.is_present other.is_present (object_numbers d) (λ i n at. agree.present n (in-directory d i n low at)) k)

  same-directories : filter (is_directory_written one) (range_with_len 0 pointer_count) ≡ filter (is_directory_written other) (range_with_len 0 pointer_count)
  same-directories = filter_same (is_directory_written one) (is_directory_written other) (range_with_len 0 pointer_count) (λ i d at. same-directory d (in-first pointer_count i d at))

  same-root : is_root_written one ≡ is_root_written other
  same-root = (λ k. any-same (is_directory_touched one) (is_directory_touched other) (range_with_len 0 pointer_count) (λ i d at. same-touched d (in-first pointer_count i d at)) k
      && any-same one.is_present other.is_present (range_with_len 0 object_count) (λ i n at. agree.present n (in-first object_count i n at)) k)

  same-objects : flat_map (places_of_object one) (range_with_len 0 object_count) ≡ flat_map (places_of_object other) (range_with_len 0 object_count)
  same-objects = flat_map-same (places_of_object one) (places_of_object other) (range_with_len 0 object_count) (λ i n at. same-object n (in-first object_count i n at))

  -- the same places are written
  pub written_by-same : written_by one ≡ written_by other
  written_by-same = (λ k. same-objects k ++ map (λ d. Directory d) (same-directories k) ++ (if same-root k then Root ∷ [] else []))

-- what is told of the operations of a group that take place
pub record AreToldOf (told : GroupChanges) (ops : List Op) (synced after : Contents) (had : Place → Bool) : Type 0 where
  pub states : (n r : ℕ) → n < object_count → r < record_count → told.state n r ≡ record_state n r ops synced Unchanged
  pub blocks : (m k : ℕ) → m < indirect_count → k < pointer_count → told.had_block (Data m k) ≡ had (Data m k)
  pub strips : (m : ℕ) → m < indirect_count → told.had_block (Indirect m) ≡ had (Indirect m)
  pub changed : (n : ℕ) → n < object_count → told.is_changed n ≡ list_any (is_change_of n) ops
  pub touched : (n : ℕ) → n < object_count → told.is_touched n ≡ list_any (is_on n) ops
  pub present : (n : ℕ) → n < object_count → told.is_present n ≡ is_some (finite.get after.objects n)
  pub long : (n : ℕ) → n < object_count → told.is_long n ≡ is_long_object (finite.get after.objects n)

-- the places that their sync writes are told by it
pub written-places : (told : GroupChanges) (ops : List Op) (synced after : Contents) (had : Place → Bool) → apply_all ops synced ≡ Ok after → AreToldOf told ops synced after had
    → written_places ops synced had ≡ written_by told
written-places told ops synced after had takes_place are = written_by-same (group_changes ops synced had) told (record {
  states = λ n r low below. sym (are.states n r low below);
  blocks = λ m k low below. sym (are.blocks m k low below);
  strips = λ m low. sym (are.strips m low);
  changed = λ n low. sym (are.changed n low);
  touched = λ n low. sym (are.touched n low);
  present = λ n low. ap (λ (c : Contents). is_some (finite.get c.objects n)) (contents-after_all ops synced after takes_place) ∙ sym (are.present n low);
  long = λ n low. ap (λ (c : Contents). is_long_object (finite.get c.objects n)) (contents-after_all ops synced after takes_place) ∙ sym (are.long n low);
})

-- the ranges of operations one after another
pub ranges-append : (xs ys : List Op) → ranges (xs ++ ys) ≡ ranges xs ++ ranges ys
ranges-append [] ys = refl
ranges-append (x ∷ xs) ys = ap (λ (l : List NumberRange). touched x ∷ l) (ranges-append xs ys)

entries-ranges : (es : List Entry) → ((i : ℕ) (e : Entry) → slice_get es i ≡ Some e → IsWithin e) → All IsRange (ranges (flat_map (λ (e : Entry). e.ops) es))
entries-ranges [] each = All-nil IsRange
entries-ranges (e ∷ es) each = subst (λ (l : List NumberRange). All IsRange l) (sym (ranges-append e.ops (flat_map (λ (x : Entry). x.ops) es)))
    (All-append IsRange (ranges e.ops) (ranges (flat_map (λ (x : Entry). x.ops) es)) (each zero e refl) (entries-ranges es (λ i x at. each (suc i) x at)))

-- of a past that explains the pool, the operations of each group have ranges that may be locked
pub group-ranges : (s : Shown) (p : Past) → AreTablesExplained s p → (group : ℕ) → All IsRange (ranges (ops_of_group group p.entries))
group-ranges s p explained group = entries-ranges (entries_in group p.entries) (λ i e at.
    let one = at_filter (λ (x : Entry). x.group == group) p.entries i e at in
    All-at IsWithin p.entries one.0 e explained.history.within one.1)

-- an operation within the limits is on an object with a number below the last one
on_number : (n : ℕ) (op : Op) → is_shape_allowed (shape_of op) ≡ true → is_on n op ≡ true → n < object_count
on_number n (Create m) allowed on = subst (λ (k : ℕ). k < object_count) (eqb-true m.0 n on) (ltb-true m.0 object_count allowed)
on_number n (Remove m) allowed on = subst (λ (k : ℕ). k < object_count) (eqb-true m.0 n on) (ltb-true m.0 object_count allowed)
on_number n (Write m offset bytes) allowed on =
    let parts = and_parts (nat_lt m.0 object_count && nat_lt 0 (length bytes)) (nat_le (offset + length bytes) max_length) allowed in
    subst (λ (k : ℕ). k < object_count) (eqb-true m.0 n on) (ltb-true m.0 object_count (and_parts (nat_lt m.0 object_count) (nat_lt 0 (length bytes)) parts.0).0)
on_number n (SetLength m new) allowed on =
    subst (λ (k : ℕ). k < object_count) (eqb-true m.0 n on) (ltb-true m.0 object_count (and_parts (nat_lt m.0 object_count) (nat_le new max_length) allowed).0)
on_number n (SetName bytes) allowed on = absurd (false≢true on)

entry_number : (n : ℕ) (ops : List Op) → list_all is_shape_allowed (map shape_of ops) ≡ true → list_any (is_on n) ops ≡ true → n < object_count
entry_number n [] allowed any = absurd (false≢true any)
entry_number n (op ∷ ops) allowed any =
    let parts = and_parts (is_shape_allowed (shape_of op)) (list_all is_shape_allowed (map shape_of ops)) allowed in
    elim (or_cases (is_on n op) (list_any (is_on n) ops) any) as (λ _. n < object_count) [ inl on ↦ on_number n op parts.0 on | inr later ↦ entry_number n ops parts.1 later ]

entries_number : (n : ℕ) (es : List Entry) → ((i : ℕ) (e : Entry) → slice_get es i ≡ Some e → list_all is_shape_allowed (map shape_of e.ops) ≡ true) → list_any (is_on n) (flat_map (λ (e : Entry). e.ops) es) ≡ true → n < object_count
entries_number n [] each any = absurd (false≢true any)
entries_number n (e ∷ es) each any =
    elim (or_cases (list_any (is_on n) e.ops) (list_any (is_on n) (flat_map (λ (x : Entry). x.ops) es)) (sym (list_any-append (is_on n) e.ops (flat_map (λ (x : Entry). x.ops) es)) ∙ any)) as (λ _. n < object_count) [
      | inl here ↦ entry_number n e.ops (each zero e refl) here
      | inr later ↦ entries_number n es (λ i x at. each (suc i) x at) later
    ]

-- and each object that they are on has such a number
pub group-numbers : (s : Shown) (p : Past) → AreTablesExplained s p → (group n : ℕ) → list_any (is_on n) (ops_of_group group p.entries) ≡ true → n < object_count
group-numbers s p explained group n any = entries_number n (entries_in group p.entries) (λ i e at.
    let one = at_filter (λ (x : Entry). x.group == group) p.entries i e at in
    let allowed = explained.exact.log.allowed one.0 e one.1 in
    (and_parts (nat_lt 0 (length (map shape_of e.ops))) (list_all is_shape_allowed (map shape_of e.ops)) allowed.shapes).1) any
