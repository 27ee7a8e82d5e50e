-- The ends of the locks of a number rise, and are the offsets where the table of parts has a key.
use Rattle.std.proofs.Common.{◌≡◌, ℕ, ◌+◌, ◌<◌, ◌≤◌, ◌==◌, ◌&&◌, ◌||◌, Bool, true, false, cond, List, [], ◌∷◌, filter, refl, ap, sym, ◌∙◌, arith, inl, inr}
use Rattle.std.specs.Prelude.{sum_by, nat_lt, nat_le}
use Rattle.std.proofs.Math.Bool.{or-true}
use Rattle.std.proofs.lemmas.Bool.{eq-eqb, ne_eqb, eqb-true, cases_eq, cases_lt, lt-ltb, le-ltb, le-leb, lt-leb, ltb-true, ltb-false, or_cases}
use Rattle.std.proofs.lemmas.List.Sums.{sum_by-cons}
use Rattle.base.specs.steps.Locks.{Grant, is_in}
use Rattle.base.proofs.common.Choices.{or-swap}
use Rattle.range_locks.specs.Parts.{ends_at}
use Rattle.range_locks.specs.Pieces.{ends_of, with_offset}
use Rattle.range_locks.proofs.LockCounts.{one}

-- each is below those after it
abbrev pub Rise : List ℕ → Type 0
Rise [] = Unit {0}
Rise (x ∷ xs) = ((y : ℕ) → is_in y xs ≡ true → x < y) × Rise xs

pub in-with_offset : (x y : ℕ) (ys : List ℕ) → is_in x (with_offset y ys) ≡ ((x == y) || is_in x ys)
in-with_offset x y [] = refl
in-with_offset x y (z ∷ zs) = elim (cases_lt y z) as (λ _. is_in x (with_offset y (z ∷ zs)) ≡ ((x == y) || is_in x (z ∷ zs))) [
  | inl below ↦ ap (λ b. is_in x (cond b (y ∷ z ∷ zs) (cond (y == z) (z ∷ zs) (z ∷ with_offset y zs)))) (lt-ltb y z below)
  | inr above ↦ ap (λ b. is_in x (cond b (y ∷ z ∷ zs) (cond (y == z) (z ∷ zs) (z ∷ with_offset y zs)))) (le-ltb y z above) ∙ elim (cases_eq y z) as (λ _. is_in x (cond (y == z) (z ∷ zs) (z ∷ with_offset y zs)) ≡ ((x == y) || is_in x (z ∷ zs))) [
    | inl same ↦ ap (λ b. is_in x (cond b (z ∷ zs) (z ∷ with_offset y zs))) (eq-eqb y z same) ∙ sym (ap (λ w. (x == w) || is_in x (z ∷ zs)) same ∙ twice (x == z) (is_in x zs))
    | inr apart ↦ ap (λ b. is_in x (cond b (z ∷ zs) (z ∷ with_offset y zs))) (ne_eqb y z apart) ∙ ap (λ b. (x == z) || b) (in-with_offset x y zs) ∙ or-swap (x == z) (x == y) (is_in x zs)
  ]
]
  where
    twice : (a b : Bool) → (a || (a || b)) ≡ (a || b)
    twice true b = refl
    twice false b = refl

rise-with_offset : (y : ℕ) (ys : List ℕ) → Rise ys → Rise (with_offset y ys)
rise-with_offset y [] rise = (λ x h. absurd (let no_way : false ≡ true = h in cc), tt)
rise-with_offset y (z ∷ zs) rise = by (rise-with_offset y zs rise.1) (nat_lt y z) refl
  where
    by_same : Rise (with_offset y zs) → (b : Bool) → (y == z) ≡ b → z ≤ y → Rise (cond b (z ∷ zs) (z ∷ with_offset y zs))
    by_same tail true is above = rise
    by_same tail false is above = (
      λ x h. elim (or_cases (x == y) (is_in x zs) (sym (in-with_offset x y zs) ∙ h)) as (λ _. z < x) [
        | inl same ↦ let x_is : x ≡ y = eqb-true x y same in let apart : y ≡ z → ⊥ = λ e. (let no_way : true ≡ false = sym (eq-eqb y z e) ∙ is in cc) in omega (arith, apart)
        | inr there ↦ rise.0 x there
      ],
      tail,
    )

    by : Rise (with_offset y zs) → (b : Bool) → nat_lt y z ≡ b → Rise (cond b (y ∷ z ∷ zs) (cond (y == z) (z ∷ zs) (z ∷ with_offset y zs)))
    by tail true is = (
      λ x h. elim (or_cases (x == z) (is_in x zs) h) as (λ _. y < x) [
        | inl same ↦ let x_is : x ≡ z = eqb-true x z same in let below : y < z = ltb-true y z is in omega arith
        | inr there ↦ let above : z < x = rise.0 x there in let below : y < z = ltb-true y z is in omega arith
      ],
      rise,
    )
    by tail false is = by_same tail (y == z) refl (ltb-false y z is)

pub rise-ends_of : (n : ℕ) (locks : List Grant) → Rise (ends_of n locks)
rise-ends_of n [] = tt
rise-ends_of n (g ∷ locks) = by (n == g.range.number) (rise-ends_of n locks)
  where
    by : (b : Bool) → Rise (ends_of n locks) → Rise (cond b (with_offset g.range.low (with_offset g.range.high (ends_of n locks))) (ends_of n locks))
    by true rise = rise-with_offset g.range.low (with_offset g.range.high (ends_of n locks)) (rise-with_offset g.range.high (ends_of n locks) rise)
    by false rise = rise

-- an offset is an end where some lock begins or ends there
pub in-ends_of : (n k : ℕ) (locks : List Grant) → is_in k (ends_of n locks) ≡ nat_lt 0 (sum_by (ends_at n k) locks)
in-ends_of n k [] = refl
in-ends_of n k (g ∷ locks) = by (n == g.range.number) refl (in-ends_of n k locks) ∙ sym (ap (λ x. nat_lt 0 x) (sum_by-cons (ends_at n k) g locks))
  where
    positive : (a b : Bool) (m : ℕ) → (a || (b || nat_lt 0 m)) ≡ nat_lt 0 (one a + one b + m)
    positive true b m = sym (lt-ltb 0 (one true + one b + m) (omega arith))
    positive false true m = sym (lt-ltb 0 (one false + one true + m) (omega arith))
    positive false false m = ap (λ x. nat_lt 0 x) (omega arith)

    by : (b : Bool) → (n == g.range.number) ≡ b → is_in k (ends_of n locks) ≡ nat_lt 0 (sum_by (ends_at n k) locks)
        → is_in k (cond b (with_offset g.range.low (with_offset g.range.high (ends_of n locks))) (ends_of n locks)) ≡ nat_lt 0 (ends_at n k g + sum_by (ends_at n k) locks)
    by true is rest =
        in-with_offset k g.range.low (with_offset g.range.high (ends_of n locks))
        ∙ ap (λ b. (k == g.range.low) || b) (in-with_offset k g.range.high (ends_of n locks))
        ∙ ap (λ b. (k == g.range.low) || ((k == g.range.high) || b)) rest
        ∙ positive (k == g.range.low) (k == g.range.high) (sum_by (ends_at n k) locks)
        ∙ sym (ap (λ b. nat_lt 0 (one (b && (k == g.range.low)) + one (b && (k == g.range.high)) + sum_by (ends_at n k) locks)) is)
    by false is rest = rest ∙ sym (ap (λ b. nat_lt 0 (one (b && (k == g.range.low)) + one (b && (k == g.range.high)) + sum_by (ends_at n k) locks)) is ∙ ap (λ x. nat_lt 0 x) (omega arith))

-- the ends from an offset on
abbrev pub ends_from : ℕ → List ℕ → List ℕ
ends_from offset xs = filter (λ (x : ℕ). nat_le offset x) xs

all_from : (offset : ℕ) (xs : List ℕ) → ((y : ℕ) → is_in y xs ≡ true → offset ≤ y) → ends_from offset xs ≡ xs
all_from offset [] above = refl
all_from offset (x ∷ xs) above =
    ap (λ b. cond b (x ∷ ends_from offset xs) (ends_from offset xs)) (le-leb offset x (above x (ap (λ b. b || is_in x xs) (eq-eqb x x refl))))
    ∙ ap (λ l. x ∷ l) (all_from offset xs (λ y h. above y (ap (λ b. (y == x) || b) h ∙ or-true (y == x))))

pub ends_from-zero : (xs : List ℕ) → ends_from 0 xs ≡ xs
ends_from-zero xs = all_from 0 xs (λ y h. omega arith)

pub none_from : (offset : ℕ) (xs : List ℕ) → ((y : ℕ) → is_in y xs ≡ true → y < offset) → ends_from offset xs ≡ []
none_from offset [] below = refl
none_from offset (x ∷ xs) below =
    ap (λ b. cond b (x ∷ ends_from offset xs) (ends_from offset xs)) (lt-leb offset x (below x (ap (λ b. b || is_in x xs) (eq-eqb x x refl))))
    ∙ none_from offset xs (λ y h. below y (ap (λ b. (y == x) || b) h ∙ or-true (y == x)))

-- the first of them, and those after it
pub first_from : (offset first : ℕ) (xs : List ℕ) → Rise xs → offset ≤ first → is_in first xs ≡ true
    → ((y : ℕ) → is_in y xs ≡ true → offset ≤ y → first ≤ y) → ends_from offset xs ≡ first ∷ ends_from (first + 1) xs
first_from offset first [] rise from there least = absurd (let no_way : false ≡ true = there in cc)
first_from offset first (x ∷ xs) rise from there least = elim (cases_lt x offset) as (λ _. ends_from offset (x ∷ xs) ≡ first ∷ ends_from (first + 1) (x ∷ xs)) [
  | inl below ↦
      let further : is_in first xs ≡ true = elim (or_cases (first == x) (is_in first xs) there) as (λ _. is_in first xs ≡ true) [ inl same ↦ absurd (let e : first ≡ x = eqb-true first x same in omega arith) | inr behind ↦ behind ] in
      ap (λ b. cond b (x ∷ ends_from offset xs) (ends_from offset xs)) (lt-leb offset x below)
      ∙ first_from offset first xs rise.1 from further (λ y h. least y (ap (λ b. (y == x) || b) h ∙ or-true (y == x)))
      ∙ sym (ap (λ b. first ∷ cond b (x ∷ ends_from (first + 1) xs) (ends_from (first + 1) xs)) (lt-leb (first + 1) x (omega arith)))
  | inr above ↦
      let at_most : first ≤ x = least x (ap (λ b. b || is_in x xs) (eq-eqb x x refl)) above in
      let same : first ≡ x = elim (or_cases (first == x) (is_in first xs) there) as (λ _. first ≡ x) [ inl is ↦ eqb-true first x is | inr behind ↦ absurd (let over : x < first = rise.0 first behind in omega arith) ] in
      ap (λ b. cond b (x ∷ ends_from offset xs) (ends_from offset xs)) (le-leb offset x above)
      ∙ ap (λ l. x ∷ l) (all_from offset xs (λ y h. let over : x < y = rise.0 y h in omega arith) ∙ sym (all_from (first + 1) xs (λ y h. let over : x < y = rise.0 y h in omega arith)))
      ∙ ap (λ y. y ∷ ends_from (first + 1) xs) (sym same)
      ∙ sym (ap (λ b. first ∷ cond b (x ∷ ends_from (first + 1) xs) (ends_from (first + 1) xs)) (lt-leb (first + 1) x (omega arith)))
]
