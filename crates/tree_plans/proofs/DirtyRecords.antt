-- The records that are written, after a write and after a cut.
use Rattle.std.proofs.Common.{◌≡◌, ◌≢◌, ◌==◌, ℕ, ◌<◌, ◌≤◌, ◌⊎◌, inl, inr, false, List, [], ◌∷◌, Option, Some, None, min, refl, ap, arith}
use Rattle.std.specs.Prelude.{filter, nat_le, nat_lt, ◌&&◌, ◌||◌, ◌+◌, ◌*◌, if◌then◌else◌}
use Rattle.std.specs.List.{list_any}
use Rattle.std.specs.Option.{option_map_or}
use Rattle.std.specs.Ordering.{nat_cmp}
use Rattle.std.specs.BTreeMap.{is_at}
use Rattle.std.proofs.lemmas.Bool.{cases_eq, cases_lt, eq-eqb, le-leb, le-ltb, lt-leb, lt-ltb, ne_eqb}
use Rattle.base.specs.formats.Limits.{record_size}
use Rattle.base.specs.tree.Syncs.{is_record_touched}
use Rattle.base.specs.declared.record_state.RecordState.{RecordState}
use Rattle.base.specs.declared.record_state.RecordState.TheVariants.{Unchanged, Dirty, Hole}

-- a number is at its own place alone
pub at-number : (r x : ℕ) → is_at (nat_cmp r) x ≡ (r == x)
at-number r x = go (cases_lt r x) (cases_eq r x)
  where
    go : (r < x) ⊎ (x ≤ r) → (r ≡ x) ⊎ (r ≢ x) → is_at (nat_cmp r) x ≡ (r == x)
    go (inl l) _ = let other : r ≢ x = λ e. omega (arith, e, l) in rw (lt-ltb r x l, ne_eqb r x other) refl
    go (inr g) (inl e) = rw (le-ltb r x g, eq-eqb r x e) refl
    go (inr g) (inr e) = rw (le-ltb r x g, ne_eqb r x e) refl

any-before : (r end : ℕ) (keys : List ℕ) → r < end → list_any (is_at (nat_cmp r)) (filter (λ k. nat_lt k end) keys) ≡ list_any (is_at (nat_cmp r)) keys
any-before r end [] low = refl
any-before r end (x ∷ keys) low = go (cases_lt x end) (any-before r end keys low)
  where
    go : (x < end) ⊎ (end ≤ x) → list_any (is_at (nat_cmp r)) (filter (λ k. nat_lt k end) keys) ≡ list_any (is_at (nat_cmp r)) keys
        → list_any (is_at (nat_cmp r)) (filter (λ k. nat_lt k end) (x ∷ keys)) ≡ list_any (is_at (nat_cmp r)) (x ∷ keys)
    go (inl l) rest = rw (lt-ltb x end l) (ap (λ b. is_at (nat_cmp r) x || b) rest)
    go (inr g) rest =
        let other : r ≢ x = λ e. omega (arith, e, low, g) in
        rw (le-ltb x end g, at-number r x, ne_eqb r x other) rest

any-from : (r end : ℕ) (keys : List ℕ) → end ≤ r → list_any (is_at (nat_cmp r)) (filter (λ k. nat_lt k end) keys) ≡ false
any-from r end [] high = refl
any-from r end (x ∷ keys) high = go (cases_lt x end) (any-from r end keys high)
  where
    go : (x < end) ⊎ (end ≤ x) → list_any (is_at (nat_cmp r)) (filter (λ k. nat_lt k end) keys) ≡ false
        → list_any (is_at (nat_cmp r)) (filter (λ k. nat_lt k end) (x ∷ keys)) ≡ false
    go (inl l) rest =
        let other : r ≢ x = λ e. omega (arith, e, high, l) in
        rw (lt-ltb x end l, at-number r x, ne_eqb r x other) rest
    go (inr g) rest = rw (le-ltb x end g) rest

-- the first hole, if all records from one on become holes
abbrev pub hole_from : Option ℕ → ℕ → ℕ
hole_from first end = option_map_or (λ k. min k end) first end

hole-before : (first : Option ℕ) (r end : ℕ) → r < end
    → (if nat_le (hole_from first end) r then Hole else Unchanged) ≡ option_map_or (λ k. if nat_le k r then Hole else Unchanged) first Unchanged
hole-before None r end low = rw (lt-leb end r low) refl
hole-before (Some k) r end low = go (cases_lt r k)
  where
    go : (r < k) ⊎ (k ≤ r) → (if nat_le (min k end) r then Hole else Unchanged) ≡ (if nat_le k r then Hole else Unchanged)
    go (inl l) = rw (lt-leb (min k end) r (omega arith), lt-leb k r l) refl
    go (inr g) = rw (le-leb (min k end) r (omega arith), le-leb k r g) refl

-- the state of a record that has this first hole before it, if it is not written
abbrev pub state_with : List ℕ → Option ℕ → ℕ → RecordState
state_with keys first r = if list_any (is_at (nat_cmp r)) keys then Dirty else option_map_or (λ k. if nat_le k r then Hole else Unchanged) first Unchanged

-- if all records from one on become holes, those before it stay
pub dropped : (keys left : List ℕ) (first : Option ℕ) (end r : ℕ) → left ≡ filter (λ k. nat_lt k end) keys
    → state_with left (Some (hole_from first end)) r ≡ (if nat_lt r end then state_with keys first r else Hole)
dropped keys left first end r is = rw is (go (cases_lt r end))
  where
    go : (r < end) ⊎ (end ≤ r)
        → state_with (filter (λ k. nat_lt k end) keys) (Some (hole_from first end)) r ≡ (if nat_lt r end then state_with keys first r else Hole)
    go (inl l) = rw (lt-ltb r end l, any-before r end keys l, hole-before first r end l) refl
    go (inr g) =
        let past : hole_from first end ≤ r = below first in
        rw (le-ltb r end g, any-from r end keys g, le-leb (hole_from first end) r past) refl
      where
        below : (first : Option ℕ) → hole_from first end ≤ r
        below None = g
        below (Some k) = omega (arith, g)

-- The records from the first one that a write touches up to its end are those that it touches, whatever the limit of
-- both.
module _ (first end offset count limit : ℕ)
    (low : (r : ℕ) → r < limit → (first ≤ r → offset < record_size * (r + 1)) × (offset < record_size * (r + 1) → first ≤ r))
    (high : (r : ℕ) → r < limit → (r < end → record_size * r < offset + count) × (record_size * r < offset + count → r < end)) where
  in_order : first < limit → first ≤ end
  in_order within = go (cases_lt end first)
    where
      go : (end < first) ⊎ (first ≤ end) → first ≤ end
      go (inr g) = g
      go (inl l) = absurd (before (cases_lt offset (record_size * (end + 1))))
        where
          before : (offset < record_size * (end + 1)) ⊎ (record_size * (end + 1) ≤ offset) → ⊥
          before (inl is) = let at = (low end (omega (arith, l, within))).1 is in omega (arith, at, l)
          before (inr is) = let past = (high end (omega (arith, l, within))).1 (omega (arith, is)) in omega (arith, past)

  pub touched : (index r : ℕ) (old : RecordState) → end ≤ index → (first ≤ end → index ≤ end) → r < limit
      → (if nat_le first r && nat_lt r index then Dirty else old) ≡ (if is_record_touched r offset count then Dirty else old)
  touched index r old done last within = go (cases_lt r first) (cases_lt r end)
    where
      go : (r < first) ⊎ (first ≤ r) → (r < end) ⊎ (end ≤ r)
          → (if nat_le first r && nat_lt r index then Dirty else old) ≡ (if is_record_touched r offset count then Dirty else old)
      go (inl l) _ =
          let past : record_size * (r + 1) ≤ offset = not_before (cases_lt offset (record_size * (r + 1))) in
          rw (lt-leb first r l, le-ltb offset (record_size * (r + 1)) past) refl
        where
          not_before : (offset < record_size * (r + 1)) ⊎ (record_size * (r + 1) ≤ offset) → record_size * (r + 1) ≤ offset
          not_before (inl is) = let at = (low r within).1 is in absurd (omega (arith, at, l))
          not_before (inr is) = is
      go (inr g) (inl l) =
          rw (le-leb first r g, lt-ltb r index (omega (arith, done)), lt-ltb offset (record_size * (r + 1)) ((low r within).0 g), lt-ltb (record_size * r) (offset + count) ((high r within).0 l)) refl
      go (inr g) (inr h) =
          let ends : index ≤ end = last (in_order (omega (arith, g, within))) in
          let past : offset + count ≤ record_size * r = not_below (cases_lt (record_size * r) (offset + count)) in
          rw (le-leb first r g, le-ltb r index (omega (arith, ends, h)), lt-ltb offset (record_size * (r + 1)) ((low r within).0 g), le-ltb (record_size * r) (offset + count) past) refl
        where
          not_below : (record_size * r < offset + count) ⊎ (offset + count ≤ record_size * r) → offset + count ≤ record_size * r
          not_below (inl is) = let at = (high r within).1 is in absurd (omega (arith, at, h))
          not_below (inr is) = is
