-- Sums over lists: of two terms, over two lists in either order, and over numbers of which few count.
use Rattle.std.proofs.Common.{◌≡◌, ℕ, ◌≢◌, zero, suc, ◌+◌, ◌-◌, ◌<◌, ◌≤◌, Bool, true, false, ◌||◌, List, [], ◌∷◌, length, get_or, set, refl, ap, sym, ◌∙◌, arith, inl, inr}
use Rattle.std.specs.Prelude.{Some, slice_get, filter, cond, sum_by}
use Rattle.std.specs.List.{list_any, range_with_len, count_by}
use Rattle.std.proofs.lemmas.Bool.{cases_eq, cases_lt}
use Rattle.std.proofs.lemmas.List.{length-set, get_or-set_other}
use Rattle.base.proofs.common.KeptLists.{none_at, Some-injective}
use Rattle.std.proofs.lemmas.List.Sums.{sum_by-cons, sum_by-set}

-- a test counts as one where it passes
abbrev pub as_one : Bool → ℕ
as_one b = cond b 1 0

module _ {X : Type 0} where
  pub sum_by-plus : (f g : X → ℕ) (xs : List X) → sum_by (λ x. f x + g x) xs ≡ sum_by f xs + sum_by g xs
  sum_by-plus f g [] = refl
  sum_by-plus f g (x ∷ xs) =
      let rest : sum_by (λ y. f y + g y) xs ≡ sum_by f xs + sum_by g xs = sum_by-plus f g xs in
      omega (arith, sum_by-cons (λ y. f y + g y) x xs, sum_by-cons f x xs, sum_by-cons g x xs)

  -- a sum of terms that are all zero
  pub sum_by-none : (f : X → ℕ) (xs : List X) → ((x : X) → f x ≡ 0) → sum_by f xs ≡ 0
  sum_by-none f [] each = refl
  sum_by-none f (x ∷ xs) each = let here : f x ≡ 0 = each x in let rest : sum_by f xs ≡ 0 = sum_by-none f xs each in omega (arith, sum_by-cons f x xs)

  -- whether one passes is no more than how many do
  pub any_within_count : (p : X → Bool) (xs : List X) → as_one (list_any p xs) ≤ count_by p xs
  any_within_count p [] = omega arith
  any_within_count p (x ∷ xs) = let each : count_by p (x ∷ xs) ≡ as_one (p x) + count_by p xs = sum_by-cons (λ y. as_one (p y)) x xs in go (p x) (list_any p xs) (count_by p xs) (count_by p (x ∷ xs)) each (any_within_count p xs)
    where
      go : (a b : Bool) (n all : ℕ) → all ≡ as_one a + n → as_one b ≤ n → as_one (a || b) ≤ all
      go true b n all e h = omega arith
      go false b n all e h = omega arith

  pub sum_by-filter : (p : X → Bool) (f : X → ℕ) (xs : List X) → sum_by f (filter p xs) ≡ sum_by (λ x. cond (p x) (f x) 0) xs
  sum_by-filter p f [] = refl
  sum_by-filter p f (x ∷ xs) = go (p x) refl (sum_by-filter p f xs)
    where
      go : (b : Bool) → p x ≡ b → sum_by f (filter p xs) ≡ sum_by (λ y. cond (p y) (f y) 0) xs → sum_by f (cond b (x ∷ filter p xs) (filter p xs)) ≡ sum_by (λ y. cond (p y) (f y) 0) (x ∷ xs)
      go true is rest =
          let one : cond (p x) (f x) 0 ≡ f x = ap (λ b. cond b (f x) 0) is in
          omega (arith, rest, sum_by-cons f x (filter p xs), sum_by-cons (λ y. cond (p y) (f y) 0) x xs)
      go false is rest =
          let one : cond (p x) (f x) 0 ≡ 0 = ap (λ b. cond b (f x) 0) is in
          omega (arith, rest, sum_by-cons (λ y. cond (p y) (f y) 0) x xs)

  -- two functions that agree on a list's elements have the same sum; where they differ at one place, the sums differ by
  -- that
  pub sum_by-same : (f g : X → ℕ) (xs : List X) → ((i : ℕ) (x : X) → slice_get xs i ≡ Some x → f x ≡ g x) → sum_by f xs ≡ sum_by g xs
  sum_by-same f g [] agree = refl
  sum_by-same f g (x ∷ xs) agree =
      let here : f x ≡ g x = agree zero x refl in
      let rest : sum_by f xs ≡ sum_by g xs = sum_by-same f g xs (λ i y at. agree (suc i) y at) in
      omega (arith, sum_by-cons f x xs, sum_by-cons g x xs)

  pub sum_by-one_other : (f g : X → ℕ) (xs : List X) (k : ℕ) (x : X) → slice_get xs k ≡ Some x → ((i : ℕ) (y : X) → i ≢ k → slice_get xs i ≡ Some y → f y ≡ g y)
      → sum_by f xs + g x ≡ sum_by g xs + f x
  sum_by-one_other f g [] k x at agree = absurd (none_at k x at)
  sum_by-one_other f g (y ∷ ys) zero x at agree =
      let rest : sum_by f ys ≡ sum_by g ys = sum_by-same f g ys (λ i z at_i. agree (suc i) z (λ e. absurd (omega arith)) at_i) in
      let one : f y ≡ f x = ap f (Some-injective at) in
      let other : g y ≡ g x = ap g (Some-injective at) in
      omega (arith, sum_by-cons f y ys, sum_by-cons g y ys)
  sum_by-one_other f g (y ∷ ys) (suc k) x at agree =
      let here : f y ≡ g y = agree zero y (λ e. absurd (omega arith)) refl in
      let rest : sum_by f ys + g x ≡ sum_by g ys + f x = sum_by-one_other f g ys k x at (λ i z ne at_i. agree (suc i) z (λ e. ne (omega arith)) at_i) in
      omega (arith, sum_by-cons f y ys, sum_by-cons g y ys)

  -- elements that stand for different places of a list of numbers, each for no more than its number
  pub apart_within : (place f : X → ℕ) (xs : List X) (numbers : List ℕ)
      → ((i : ℕ) (x : X) → slice_get xs i ≡ Some x → (place x < length numbers) × (f x ≤ get_or numbers (place x) 0))
      → ((i j : ℕ) (x y : X) → i < j → slice_get xs i ≡ Some x → slice_get xs j ≡ Some y → place x ≡ place y → ⊥) → sum_by f xs ≤ sum_by (λ n. n) numbers
  apart_within place f [] numbers each apart = omega arith
  apart_within place f (x ∷ xs) numbers each apart =
      let here : (place x < length numbers) × (f x ≤ get_or numbers (place x) 0) = each zero x refl in
      let rest : sum_by f xs ≤ sum_by (λ n. n) (set numbers (place x) 0) = apart_within place f xs (set numbers (place x) 0)
      (λ i y at.
      let there : (place y < length numbers) × (f y ≤ get_or numbers (place y) 0) = each (suc i) y at in
      let same : get_or (set numbers (place x) 0) (place y) 0 ≡ get_or numbers (place y) 0 = get_or-set_other numbers (place x) (place y) 0 0 (λ e. apart zero (suc i) x y (omega arith) refl at (sym e)) in
      (omega (arith, length-set numbers (place x) 0), omega arith))
      (λ i j y z below at_i at_j. apart (suc i) (suc j) y z (omega arith) at_i at_j) in
      omega (arith, sum_by-cons f x xs, sum_by-set (λ n. n) numbers (place x) 0 0 here.0)

pub sum_by-sum_by : {X Y : Type 0} (f : X → Y → ℕ) (xs : List X) (ys : List Y) → sum_by (λ x. sum_by (f x) ys) xs ≡ sum_by (λ y. sum_by (λ x. f x y) xs) ys
sum_by-sum_by f [] ys = sym (sum_by-none (λ y. 0) ys (λ y. refl))
sum_by-sum_by {X} {Y} f (x ∷ xs) ys =
    sum_by-cons (λ z. sum_by (f z) ys) x xs ∙ ap (λ n. sum_by (f x) ys + n) (sum_by-sum_by f xs ys)
    ∙ sym (sum_by-plus (f x) (λ y. sum_by (λ z. f z y) xs) ys) ∙ ap (λ (g : Y → ℕ). sum_by g ys) (λ i y. sym (sum_by-cons (λ z. f z y) x xs) i)

-- a number that only one of the numbers has
pub one_within : (f : ℕ → ℕ) (m w a count : ℕ) → ((i : ℕ) → a ≤ i → i < a + count → i ≢ m → f i ≡ 0) → (a ≤ m → f m ≤ w) → sum_by f (range_with_len a count) ≤ w
one_within f m w a zero none most = omega arith
one_within f m w a (suc count) none most = elim (cases_eq a m) as (λ _. sum_by f (range_with_len a (suc count)) ≤ w) [
  | inl e ↦ (
      let here : f a ≤ w = rw e (most (omega arith)) in
      let rest : sum_by f (range_with_len (a + 1) count) ≤ 0 = one_within f m 0 (a + 1) count (λ i from to ne. none i (omega arith) (omega arith) ne) (λ from. absurd (omega arith)) in
      omega (arith, sum_by-cons f a (range_with_len (a + 1) count)))
  | inr ne ↦ (
      let here : f a ≡ 0 = none a (omega arith) (omega arith) ne in
      let rest : sum_by f (range_with_len (a + 1) count) ≤ w = one_within f m w (a + 1) count (λ i from to other. none i (omega arith) (omega arith) other) (λ from. most (omega arith)) in
      omega (arith, sum_by-cons f a (range_with_len (a + 1) count)))
]

-- no more numbers pass a test than lie where it passes
pub count_within : (p : ℕ → Bool) (low w a count : ℕ) → ((i : ℕ) → a ≤ i → i < a + count → p i ≡ true → (low ≤ i) × (i < low + w)) → count_by p (range_with_len a count) ≤ w
count_within p low w a zero within = omega arith
count_within p low w a (suc count) within =
    let each : count_by p (range_with_len a (suc count)) ≡ as_one (p a) + count_by p (range_with_len (a + 1) count) = sum_by-cons (λ i. as_one (p i)) a (range_with_len (a + 1) count) in
    go (p a) refl (λ l v h. count_within p l v (a + 1) count h) (count_by p (range_with_len a (suc count))) each
  where
    go : (b : Bool) → p a ≡ b → ((l v : ℕ) → ((i : ℕ) → a + 1 ≤ i → i < (a + 1) + count → p i ≡ true → (l ≤ i) × (i < l + v)) → count_by p (range_with_len (a + 1) count) ≤ v)
        → (all : ℕ) → all ≡ as_one b + count_by p (range_with_len (a + 1) count) → all ≤ w
    go true is later all e =
        let here : (low ≤ a) × (a < low + w) = within a (omega arith) (omega arith) is in
        let rest : count_by p (range_with_len (a + 1) count) ≤ (low + w) - (a + 1) = later (a + 1) ((low + w) - (a + 1))
        (λ i from to passes. (from, let there : (low ≤ i) × (i < low + w) = within i (omega arith) (omega arith) passes in omega arith)) in
        omega arith
    go false is later all e = let rest : count_by p (range_with_len (a + 1) count) ≤ w = later low w (λ i from to passes. within i (omega arith) (omega arith) passes) in omega arith

-- and so of numbers in rows, one row after another
pub rows_within : (p : ℕ → ℕ → Bool) (start : ℕ → ℕ) (size low w a many : ℕ) → ((i j : ℕ) → i < j → start i + size ≤ start j)
    → ((j k : ℕ) → a ≤ j → k < size → p j k ≡ true → (low ≤ start j + k) × (start j + k < low + w)) → sum_by (λ j. count_by (p j) (range_with_len 0 size)) (range_with_len a many) ≤ w
rows_within p start size low w a zero rising within = omega arith
rows_within p start size low w a (suc many) rising within = elim (cases_lt low (start a + size)) as (λ _. sum_by row (range_with_len a (suc many)) ≤ w) [
  | inr behind ↦ (
      let none = count_within (p a) 0 0 0 size (λ k from to passes. let at = within a k (omega arith) (omega (arith, to)) passes in let first = at.0 in absurd (omega (arith, first, to, behind))) in
      let rest = rows_within p start size low w (a + 1) many rising (λ j k from to passes. within j k (omega (arith, from)) to passes) in
      omega (arith, none, rest, whole))
  | inl here ↦ elim (cases_lt (start a + size) (low + w)) as (λ _. sum_by row (range_with_len a (suc many)) ≤ w) [
    | inl more ↦ (
        let first = count_within (p a) (low - start a) ((start a + size) - low) 0 size (λ k from to passes.
        let at = within a k (omega arith) (omega (arith, to)) passes in let above = at.0 in (omega (arith, above), omega (arith, to, here))) in
        let rest = rows_within p start size (start a + size) ((low + w) - (start a + size)) (a + 1) many rising (λ j k from to passes.
        let at = within j k (omega (arith, from)) to passes in let below = at.1 in let next = rising a j (omega (arith, from)) in (omega (arith, next), omega (arith, below, more))) in
        omega (arith, first, rest, whole, here, more))
    | inr all ↦ (
        let first = count_within (p a) (low - start a) w 0 size (λ k from to passes.
        let at = within a k (omega arith) (omega (arith, to)) passes in let above = at.0 in let below = at.1 in (omega (arith, above), omega (arith, above, below))) in
        let rest = rows_within p start size low 0 (a + 1) many rising (λ j k from to passes.
        let at = within j k (omega (arith, from)) to passes in let below = at.1 in let next = rising a j (omega (arith, from)) in absurd (omega (arith, below, next, all))) in
        omega (arith, first, rest, whole))
  ]
]
  where
    row : ℕ → ℕ
    row j = count_by (p j) (range_with_len 0 size)

    whole : sum_by row (range_with_len a (suc many)) ≡ row a + sum_by row (range_with_len (a + 1) many)
    whole = sum_by-cons row a (range_with_len (a + 1) many)
