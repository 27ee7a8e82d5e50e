-- Flags of a range: which are clear, and how many are set after one is set or cleared.
use Rattle.std.proofs.Common.{◌≡◌, ◌≢◌, ℕ, zero, suc, ◌+◌, ◌-◌, ◌<◌, ◌≤◌, Bool, true, false, cond, List, length, max, min, get_or, inl, inr, refl, sym, ◌∙◌, ap, arith}
use Rattle.std.specs.Prelude.{replicate}
use Rattle.std.proofs.Math.ListN.{set as list_set}
use Rattle.std.proofs.lemmas.Bool.{cases_eq, cases_lt}
use Rattle.std.proofs.lemmas.List.{get_or-replicate, get_or-set_other, get_or-set_same, get_or_past, length-replicate}
use Rattle.space.specs.SetFlags.{AreClear, IsFirstSet, set_count}

-- a flag that is set is there
pub set_within : (flags : List Bool) (k : ℕ) → get_or flags k false ≡ true → k < length flags
set_within flags k is = elim (cases_lt k (length flags)) [
  | inl within ↦ within
  | inr past ↦ absurd (let not : get_or flags k false ≡ false = get_or_past flags k false past in let h : true ≡ false = sym is ∙ not in cc)
]

-- flags are clear up to a place, and from there on
pub clear_from : (first middle last : ℕ) (flags : List Bool) → AreClear first middle flags → AreClear (max first middle) last flags → AreClear first last flags
clear_from first middle last flags below rest k low high = elim (cases_lt k middle) as (λ _. get_or flags k false ≡ false) [
  | inl less ↦ below k low less
  | inr more ↦ rest k (omega (arith, low, more)) high
]

-- so the first one from there on is the first
pub first_from : (first middle last k : ℕ) (flags : List Bool) → AreClear first middle flags → IsFirstSet (max first middle) last flags k → IsFirstSet first last flags k
first_from first middle last k flags below f = record {
  from = (let from = f.from in omega (arith, from));
  within = f.within;
  is_set = f.is_set;
  lowest = clear_from first middle k flags below f.lowest;
}

one-le : (b : Bool) → cond b 1 0 ≤ 1
one-le true = omega arith
one-le false = omega arith

no_one : (b : Bool) → cond b 1 0 ≤ 0 → b ≡ false
no_one true few = absurd (omega (arith, few))
no_one false few = refl

-- no more flags are set than there are
pub set_count-le : (first n : ℕ) (flags : List Bool) → set_count first n flags ≤ n
unfolding set_count
set_count-le first zero flags = omega arith
set_count-le first (suc n) flags = omega (arith, one-le (get_or flags first false), set_count-le (first + 1) n flags)

-- where none is counted, all are clear
pub none_set : (first n : ℕ) (flags : List Bool) → set_count first n flags ≡ 0 → AreClear first (first + n) flags
unfolding set_count
none_set first zero flags none k from below = absurd (omega (arith, from, below))
none_set first (suc n) flags none k from below = elim (cases_eq k first) as (λ _. get_or flags k false ≡ false) [
  | inl here ↦ ap (λ j. get_or flags j false) here ∙ no_one (get_or flags first false) (omega (arith, none))
  | inr other ↦ none_set (first + 1) n flags (omega (arith, none)) k (omega (arith, from, other)) (omega (arith, below))
]

-- a set flag is counted
pub one_set : (first n k : ℕ) (flags : List Bool) → first ≤ k → k < first + n → get_or flags k false ≡ true → 1 ≤ set_count first n flags
one_set first n k flags from below is = counted (set_count first n flags) refl
  where
    counted : (count : ℕ) → set_count first n flags ≡ count → 1 ≤ count
    counted (suc count) e = omega arith
    counted zero e = absurd (let h : true ≡ false = sym is ∙ none_set first n flags e k from below in cc)

-- a flag outside of the range changes no count of it
pub set_count-apart : (first n i : ℕ) (b : Bool) (flags : List Bool) → ((k : ℕ) → first ≤ k → k < first + n → k ≢ i)
    → set_count first n (list_set flags i b) ≡ set_count first n flags
unfolding set_count
set_count-apart first zero i b flags apart = refl
set_count-apart first (suc n) i b flags apart =
    let here : get_or (list_set flags i b) first false ≡ get_or flags first false = get_or-set_other flags i first b false (apart first (omega arith) (omega arith)) in
    let rest = set_count-apart (first + 1) n i b flags (λ k from below. apart k (omega (arith, from)) (omega (arith, below))) in
    rw (here, rest) refl

-- one of the range changes it as the flag changes
pub set_count-set : (first n i : ℕ) (b : Bool) (flags : List Bool) → first ≤ i → i < first + n → i < length flags
    → set_count first n (list_set flags i b) + cond (get_or flags i false) 1 0 ≡ set_count first n flags + cond b 1 0
unfolding set_count
set_count-set first zero i b flags from below within = absurd (omega (arith, from, below))
set_count-set first (suc n) i b flags from below within = elim (cases_eq first i) [
  | inl here ↦
      (let new : get_or (list_set flags i b) first false ≡ b = ap (λ j. get_or (list_set flags i b) j false) here ∙ get_or-set_same flags i b false within in
      let old : get_or flags first false ≡ get_or flags i false = ap (λ j. get_or flags j false) here in
      let rest = set_count-apart (first + 1) n i b flags (λ k low _ same. omega (arith, low, same, here)) in
      rw (new, old, rest) (omega arith))
  | inr other ↦
      (let same : get_or (list_set flags i b) first false ≡ get_or flags first false = get_or-set_other flags i first b false other in
      let rest = set_count-set (first + 1) n i b flags (omega (arith, from, other)) (omega (arith, below)) within in
      rw same (omega (arith, rest)))
]

-- where all are set, each one that is there counts
pub set_count-all : (first n count : ℕ) → set_count first n (replicate count true) ≡ min n (count - first)
unfolding set_count
set_count-all first zero count = omega arith
set_count-all first (suc n) count =
    let rest = set_count-all (first + 1) n count in
    elim (cases_lt first count) [
      | inl inside ↦
          (let is : get_or (replicate count true) first false ≡ true = get_or-replicate count first true false inside in
          rw is (omega (arith, inside, rest)))
      | inr past ↦
          (let is : get_or (replicate count true) first false ≡ false = get_or_past (replicate count true) first false (omega (arith, past, length-replicate count true)) in
          rw is (omega (arith, past, rest)))
    ]
