-- Whether a strip has a record to write is found by the part of the dirty records that lies in it.
use Rattle.std.proofs.Common.{◌≡◌, ℕ, ◌+◌, ◌-◌, ◌*◌, ◌/◌, ◌<◌, ◌≤◌, ◌⊎◌, inl, inr, Bool, true, false, not, List, [], ◌∷◌, btree_set_len, length, Option, Some, None, refl, sym, ◌∙◌, ap, subst, arith}
use Rattle.std.specs.Prelude.{IfSome, is_some, nat_le, slice_get, if◌then◌else◌}
use Rattle.std.specs.BTreeSet.{IsKeyInRange, IsKeyRangeOf, IsUpperBound, contains}
use Rattle.std.specs.List.{list_any}
use Rattle.std.specs.BTreeMap.{is_at}
use Rattle.std.specs.BTreeMap.Range.{IsLeBy, IsLtBy}
use Rattle.std.specs.Map.Iter.{TakesFirst}
use Rattle.std.specs.Option.{option_map_or}
use Rattle.std.specs.Ordering.{nat_cmp}
use Rattle.std.specs.declared.cmp.Ordering.TheVariants.{Equal, Greater, Less}
use Rattle.std.specs.declared.ops.Bound.TheVariants.{Excluded, Included}
use Rattle.std.proofs.lemmas.Bool.{cases_eq, cases_lt, eq-eqb, le-leb, le-ltb, lt-leb, lt-ltb, ne_eqb, true≢false}
use Rattle.base.specs.declared.record_state.RecordState.TheVariants.{Unchanged, Dirty, Hole}
use Rattle.base.specs.formats.Limits.{pointer_count}
use Rattle.base.specs.tree.Places.{record_of_strip}
use Rattle.base.specs.tree.Syncs.{is_dirty, is_unchanged, pointer_numbers}
use Rattle.base.proofs.tree.WrittenPlaces.{any-same, in-range}
use Rattle.base.proofs.common.KeptLists.{none_between}
use Rattle.tree_plans.specs.declared.changes.ObjectChanges.{ObjectChanges}
use Rattle.tree_plans.specs.Changes.{is_strip_dirty, is_strip_touched, state_at}
use Rattle.tree_plans.proofs.Order.{passes_at}

-- a record is written if it is among the dirty ones
pub dirty-contains : (changes : ObjectChanges) (r : ℕ) → is_dirty (state_at changes r) ≡ contains nat_cmp changes.dirty r
dirty-contains changes r = by (contains nat_cmp changes.dirty r)
  where
    other : (b : Bool) → is_dirty (if b then Hole else Unchanged) ≡ false
    other true = refl
    other false = refl

    rest : (o : Option ℕ) → is_dirty (option_map_or (λ first. if nat_le first r then Hole else Unchanged) o Unchanged) ≡ false
    rest None = refl
    rest (Some first) = other (nat_le first r)

    by : (b : Bool) → is_dirty (if b then Dirty else option_map_or (λ first. if nat_le first r then Hole else Unchanged) changes.first_hole Unchanged) ≡ b
    by true = refl
    by false = rest changes.first_hole

-- some dirty record lies in the strip, or none does
pub dirty_there : (changes : ObjectChanges) (j r : ℕ) → pointer_count * j ≤ r → r < pointer_count * j + pointer_count → contains nat_cmp changes.dirty r ≡ true → is_strip_dirty changes j ≡ true
dirty_there changes j r from to there =
    let k : ℕ = r - pointer_count * j in
    let same : record_of_strip j k ≡ r = omega (arith, from) in
    passes_at (λ i. is_dirty (state_at changes (record_of_strip j i))) 0 pointer_count k (omega arith) (omega (arith, from, to)) (ap (λ (x : ℕ). is_dirty (state_at changes x)) same ∙ dirty-contains changes r ∙ there)

pub none_dirty : (changes : ObjectChanges) (j : ℕ) → ((r : ℕ) → pointer_count * j ≤ r → r < pointer_count * j + pointer_count → contains nat_cmp changes.dirty r ≡ false) → is_strip_dirty changes j ≡ false
none_dirty changes j none = none_between (λ k. is_dirty (state_at changes (record_of_strip j k))) 0 pointer_count
    (λ k from to. dirty-contains changes (record_of_strip j k) ∙ none (record_of_strip j k) (omega arith) (omega (arith, to)))

-- numbers in their order
le_by : (a b : ℕ) → IsLeBy nat_cmp a b → a ≤ b
le_by a b is = go (cases_lt a b) (cases_eq a b)
  where
    go : (a < b) ⊎ (b ≤ a) → (a ≡ b) ⊎ (a ≡ b → ⊥) → a ≤ b
    go (inl low) _ = omega (arith, low)
    go (inr high) (inl same) = omega (arith, same)
    go (inr high) (inr other) = let above : nat_cmp a b ≡ Greater = rw (le-ltb a b high, ne_eqb a b other) refl in absurd (true≢false (rw above at is))

by_le : (a b : ℕ) → a ≤ b → IsLeBy nat_cmp a b
by_le a b low = go (cases_lt a b)
  where
    go : (a < b) ⊎ (b ≤ a) → IsLeBy nat_cmp a b
    go (inl below) = rw (lt-ltb a b below) refl
    go (inr high) = rw (le-ltb a b high, eq-eqb a b (omega (arith, high, low))) refl

lt_by : (a b : ℕ) → IsLtBy nat_cmp a b → a < b
lt_by a b is = go (cases_lt a b) (cases_eq a b)
  where
    go : (a < b) ⊎ (b ≤ a) → (a ≡ b) ⊎ (a ≡ b → ⊥) → a < b
    go (inl low) _ = low
    go (inr high) (inl same) = absurd (let e : Equal ≡ Less = rw (le-ltb a b high, eq-eqb a b same) at is in cc)
    go (inr high) (inr other) = absurd (let e : Greater ≡ Less = rw (le-ltb a b high, ne_eqb a b other) at is in cc)

by_lt : (a b : ℕ) → a < b → IsLtBy nat_cmp a b
by_lt a b low = rw (lt-ltb a b low) refl

-- the first record of the part of the dirty ones that lies in a strip tells whether one of the strip is written
pub first_told : {A : Type 0} (shows : A → ℕ) (changes : ObjectChanges) (j : ℕ) (found rest : List ℕ) (o : Option A)
    → IsKeyRangeOf nat_cmp (Included (pointer_count * j)) (Excluded (pointer_count * j + pointer_count)) changes.dirty found → TakesFirst shows found o rest → is_some o ≡ is_strip_dirty changes j
first_told shows changes j found rest None part taken =
    sym (none_dirty changes j (λ r from to. part.5 taken.0 r (by_le (pointer_count * j) r from, by_lt r (pointer_count * j + pointer_count) to)))
first_told shows changes j found rest (Some x) part taken =
    let here : IsKeyInRange nat_cmp (Included (pointer_count * j)) (Excluded (pointer_count * j + pointer_count)) changes.dirty (shows x) =
    subst (λ (l : List ℕ). IfSome (slice_get l 0) (IsKeyInRange nat_cmp (Included (pointer_count * j)) (Excluded (pointer_count * j + pointer_count)) changes.dirty)) taken part.1 in
    sym (dirty_there changes j (shows x) (le_by (pointer_count * j) (shows x) here.0.0) (lt_by (shows x) (pointer_count * j + pointer_count) here.0.1) here.1)

-- a strip is touched if a hole begins before its end
pub hole_touches : (changes : ObjectChanges) (j first : ℕ) → changes.first_hole ≡ Some first → first < pointer_count * (j + 1) → is_strip_touched changes j ≡ true
hole_touches changes j first is low = passes_at (λ k. not (is_unchanged (state_at changes (record_of_strip j k)))) 0 pointer_count 83 (omega arith) (omega arith) (by (contains nat_cmp changes.dirty (record_of_strip j 83)))
  where
    last : option_map_or (λ (x : ℕ). if nat_le x (record_of_strip j 83) then Hole else Unchanged) changes.first_hole Unchanged ≡ Hole
    last = rw (is, le-leb first (record_of_strip j 83) (omega (arith, low))) refl

    by : (b : Bool) → not (is_unchanged (if b then Dirty else option_map_or (λ (x : ℕ). if nat_le x (record_of_strip j 83) then Hole else Unchanged) changes.first_hole Unchanged)) ≡ true
    by true = refl
    by false = rw last refl

-- and otherwise if a record of it is written
pub dirty_touches : (changes : ObjectChanges) (j : ℕ) → IfSome changes.first_hole (λ first. pointer_count * (j + 1) ≤ first) → is_strip_dirty changes j ≡ is_strip_touched changes j
dirty_touches changes j past = any-same (λ k. is_dirty (state_at changes (record_of_strip j k))) (λ k. not (is_unchanged (state_at changes (record_of_strip j k)))) pointer_numbers
    (λ i k at. let to = (in-range 0 pointer_count i k at).1 in by k (omega (arith, to)) (contains nat_cmp changes.dirty (record_of_strip j k)))
  where
    clean : (k : ℕ) → k < pointer_count → (o : Option ℕ) → IfSome o (λ first. pointer_count * (j + 1) ≤ first) → option_map_or (λ (x : ℕ). if nat_le x (record_of_strip j k) then Hole else Unchanged) o Unchanged ≡ Unchanged
    clean k low None behind = refl
    clean k low (Some first) behind = rw (lt-leb first (record_of_strip j k) (omega (arith, behind, low))) refl

    by : (k : ℕ) → k < pointer_count → (b : Bool) → is_dirty (if b then Dirty else option_map_or (λ (x : ℕ). if nat_le x (record_of_strip j k) then Hole else Unchanged) changes.first_hole Unchanged)
        ≡ not (is_unchanged (if b then Dirty else option_map_or (λ (x : ℕ). if nat_le x (record_of_strip j k) then Hole else Unchanged) changes.first_hole Unchanged))
    by k low true = refl
    by k low false = rw (clean k low changes.first_hole past) refl

-- no number is the first hole
pub no_first : (o : Option ℕ) (P : ℕ → Type 0) → ((x : ℕ) → o ≡ Some x → ⊥) → IfSome o P
no_first None P none = tt
no_first (Some x) P none = absurd (none x refl)

-- a strip past the last record that is written has none
pub none_past : (changes : ObjectChanges) (last j : ℕ) → IsUpperBound nat_cmp changes.dirty last → last / pointer_count + 1 ≤ j → is_strip_dirty changes j ≡ false
none_past changes last j bound past = none_dirty changes j (λ r from _. absent r (omega (arith, past, from)))
  where
    absent : (r : ℕ) → last < r → contains nat_cmp changes.dirty r ≡ false
    absent r above = by (contains nat_cmp changes.dirty r) refl
      where
        less : nat_cmp last r ≡ Less
        less = rw (lt-ltb last r above) refl

        by : (b : Bool) → contains nat_cmp changes.dirty r ≡ b → b ≡ false
        by false _ = refl
        by true there = absurd (true≢false (rw less at (bound r there)))

-- no strip has one if none is written
pub none_of_none : (changes : ObjectChanges) (j : ℕ) → btree_set_len changes.dirty ≡ 0 → is_strip_dirty changes j ≡ false
none_of_none changes j none = none_dirty changes j (λ r _ _. absent (is_at (nat_cmp r)) changes.dirty.keys none)
  where
    absent : (p : ℕ → Bool) (keys : List ℕ) → length keys ≡ 0 → list_any p keys ≡ false
    absent p [] _ = refl
    absent p (k ∷ keys) some = absurd (omega (arith, some))
