-- What is true of held locks stays true of them as one is granted and as one is released.
use Rattle.std.proofs.Common.{◌≡◌, ℕ, ◌+◌, ◌<◌, ◌≤◌, ◌==◌, Bool, true, false, not, [], ◌∷◌, ◌++◌, length, filter, ap, sym, arith, Some, inl, inr}
use Rattle.std.specs.Prelude.{slice_get, nat_lt, nat_le}
use Rattle.std.proofs.lemmas.Bool.{and_parts, ltb-true, leb-true}
use Rattle.std.proofs.lemmas.List.{length_push}
use Rattle.std.proofs.lemmas.List.Sums.{count_by-le-length, length-filter}
use Rattle.std.proofs.lemmas.Option.{slice_get_within}
use Rattle.std.specs.List.{count_by}
use Rattle.base.specs.declared.range.Mode.{Mode}
use Rattle.base.specs.formats.Limits.{max_length, max_locks, last_number}
use Rattle.base.specs.history.Plans.{NumberRange}
use Rattle.base.specs.steps.Locks.{Grant, is_blocked, is_range_allowed}
use Rattle.base.proofs.common.KeptLists.{at_filter, pair_filter, push-cases}
use Rattle.base.proofs.steps.BusyLocks.{granted-sound}
use Rattle.range_locks.specs.Locks.{LockTable, AreHeld, with_grant, without}

module _ (held : LockTable) (was : AreHeld held) where
  -- one that is granted
  pub granted_are : (owner : ℕ) (range : NumberRange) (mode : Mode) → is_range_allowed range.low range.high ≡ true
      → is_blocked range mode held.locks ≡ false → length held.locks < max_locks → held.next ≤ last_number → AreHeld (with_grant owner range mode held)
  granted_are owner range mode allowed free few named = record {
    rising = λ i j g h below at_i at_j. elim (push-cases held.locks last h j at_j) as (λ _. g.id < h.id) [
      | inl old_j ↦ was.rising i j g h below (front i j g h below at_i old_j) old_j
      | inr new_j ↦ elim (push-cases held.locks last g i at_i) as (λ _. g.id < h.id) [
        | inl old_i ↦ let low : g.id < held.next = was.named i g old_i in let same : held.next ≡ h.id = ap (λ (x : Grant). x.id) new_j.1 in omega arith
        | inr new_i ↦ absurd (omega (arith, new_i.0, new_j.0))
      ]
    ];
    named = λ i g at. elim (push-cases held.locks last g i at) as (λ _. g.id < held.next + 1) [
      | inl old ↦ let low : g.id < held.next = was.named i g old in omega arith
      | inr new ↦ let same : held.next ≡ g.id = ap (λ (x : Grant). x.id) new.1 in omega arith
    ];
    allowed = λ i g at. elim (push-cases held.locks last g i at) as (λ _. (g.range.low < g.range.high) × (g.range.high ≤ max_length)) [
      | inl old ↦ was.allowed i g old
      | inr new ↦ subst_range g (sym new.1)
    ];
    sound = granted-sound held.locks last was.sound free;
    count = let longer : length (held.locks ++ last ∷ []) ≡ length held.locks + 1 = length_push held.locks last in omega arith;
    next = omega arith;
  }
    where
      last : Grant
      last = record { id = held.next; owner = owner; range = range; mode = mode }

      front : (i j : ℕ) (g h : Grant) → i < j → slice_get (held.locks ++ last ∷ []) i ≡ Some g → slice_get held.locks j ≡ Some h → slice_get held.locks i ≡ Some g
      front i j g h below at_i at_j = elim (push-cases held.locks last g i at_i) as (λ _. slice_get held.locks i ≡ Some g) [
        | inl old ↦ old
        | inr new ↦ absurd (let within : j < length held.locks = slice_get_within held.locks j h at_j in omega (arith, new.0))
      ]

      parts : (nat_lt range.low range.high ≡ true) × (nat_le range.high max_length ≡ true)
      parts = and_parts (nat_lt range.low range.high) (nat_le range.high max_length) allowed

      subst_range : (g : Grant) → g ≡ last → (g.range.low < g.range.high) × (g.range.high ≤ max_length)
      subst_range g same = rw same (ltb-true range.low range.high parts.0, leb-true range.high max_length parts.1)

  -- one that is released
  pub without_are : (id : ℕ) → AreHeld (without id held)
  without_are id = record {
    rising = λ i j g h below at_i at_j. let pair = pair_filter others held.locks i j g h below at_i at_j in was.rising pair.0 pair.1 g h pair.2 pair.3 pair.4;
    named = λ i g at. let found = at_filter others held.locks i g at in was.named found.0 g found.1;
    allowed = λ i g at. let found = at_filter others held.locks i g at in was.allowed found.0 g found.1;
    sound = λ i j g h below at_i at_j. let pair = pair_filter others held.locks i j g h below at_i at_j in was.sound pair.0 pair.1 g h pair.2 pair.3 pair.4;
    count = let kept : length (filter others held.locks) ≡ count_by others held.locks = length-filter others held.locks in let most : count_by others held.locks ≤ length held.locks = count_by-le-length others held.locks in omega (arith, was.count);
    next = was.next;
  }
    where
      others : Grant → Bool
      others g = not (g.id == id)
