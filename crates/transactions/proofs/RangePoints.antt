-- However the ranges of a plan are joined, they have the same points: bytes, and places between two bytes of a range.
use Rattle.std.proofs.Common.{ℕ, zero, suc, ◌≡◌, ◌≤◌, ◌*◌, Bool, true, false, ◌&&◌, ◌||◌, List, [], ◌∷◌, nat_lt, refl, ap, ◌∙◌, arith, cond}
use Rattle.std.specs.Prelude.{◌==◌, filter, fold, insert, max, min, not}
use Rattle.std.specs.List.{list_any}
use Rattle.std.proofs.Math.Bool.{or_assoc}
use Rattle.std.proofs.lemmas.Bool.Decides.{nat_tests}
use Rattle.std.proofs.lemmas.Grind.{common_steps}
use Rattle.base.specs.declared.range.ObjectRange.{ObjectRange}
use Rattle.base.proofs.common.Choices.{or-swap}
use Rattle.transactions.specs.LockRanges.{hull, is_shared, joined, joined_after, with_range, with_shared}

-- whether a range of an object has a point: 2 k + 1 is the byte k, and 2 k is between k and the byte before it
abbrev pub has_point : ℕ → ℕ → ObjectRange → Bool
has_point object point x = (x.object.0 == object) && (nat_lt (2 * x.range.low) point && nat_lt point (2 * x.range.high))

-- whether a range has the bytes of another
abbrev pub Holds : ObjectRange → ObjectRange → Type 0
Holds whole r = (whole.object.0 ≡ r.object.0) × (whole.range.low ≤ r.range.low) × (r.range.high ≤ whole.range.high)

hull_numbers : (o q n l h k c d m a b : ℕ) → n ≡ k → l ≤ c → d ≤ h → ((m == k) && (nat_lt a d && nat_lt c b)) ≡ true
    → ((n == o) && (nat_lt (2 * min l a) q && nat_lt q (2 * max h b))) ≡ (((n == o) && (nat_lt (2 * l) q && nat_lt q (2 * h))) || ((m == o) && (nat_lt (2 * a) q && nat_lt q (2 * b))))
hull_numbers o q n l h k c d m a b same low high shared = grind (arith, nat_tests, common_steps)

-- a range with one that overlaps a part of it
pub hull_points : (o q : ℕ) (r whole y : ObjectRange) → Holds whole r → is_shared y r ≡ true → has_point o q (hull whole y) ≡ (has_point o q whole || has_point o q y)
hull_points o q r whole y (same, low, high) shared =
    hull_numbers o q whole.object.0 whole.range.low whole.range.high r.object.0 r.range.low r.range.high y.object.0 y.range.low y.range.high same low high shared

pub holds_self : (r : ObjectRange) → Holds r r
holds_self r = (refl, omega arith, omega arith)

pub holds_hull : (r whole y : ObjectRange) → Holds whole r → Holds (hull whole y) r
holds_hull r whole y (same, low, high) = (same, omega (arith, low), omega (arith, high))

pub or_none : (b : Bool) → b ≡ (b || false)
or_none true = refl
or_none false = refl

or_three : (a b c : Bool) → (a || (b || c)) ≡ ((b || a) || c)
or_three true true c = refl
or_three true false c = refl
or_three false true c = refl
or_three false false c = refl

module _ (o q : ℕ) where
  joined_points : (r whole : ObjectRange) (others : List ObjectRange) → Holds whole r → has_point o q (fold (with_shared r) whole others) ≡ (has_point o q whole || list_any (λ y. is_shared y r && has_point o q y) others)
  joined_points r whole [] holds = or_none (has_point o q whole)
  joined_points r whole (y ∷ ys) holds = go (is_shared y r) refl (joined_points r (hull whole y) ys (holds_hull r whole y holds)) (joined_points r whole ys holds)
    where
      go : (b : Bool) → is_shared y r ≡ b
          → has_point o q (fold (with_shared r) (hull whole y) ys) ≡ (has_point o q (hull whole y) || list_any (λ y. is_shared y r && has_point o q y) ys)
          → has_point o q (fold (with_shared r) whole ys) ≡ (has_point o q whole || list_any (λ y. is_shared y r && has_point o q y) ys)
          → has_point o q (fold (with_shared r) (cond b (hull whole y) whole) ys) ≡ (has_point o q whole || ((b && has_point o q y) || list_any (λ y. is_shared y r && has_point o q y) ys))
      go true shared larger same =
          larger ∙ ap (λ (b : Bool). b || list_any (λ y. is_shared y r && has_point o q y) ys) (hull_points o q r whole y holds shared)
          ∙ or_assoc (has_point o q whole) (has_point o q y) (list_any (λ y. is_shared y r && has_point o q y) ys)
      go false apart larger same = same

any_inserted : (p : ObjectRange → Bool) (ys : List ObjectRange) (n : ℕ) (w : ObjectRange) → list_any p (insert ys n w) ≡ (p w || list_any p ys)
any_inserted p ys zero w = refl
any_inserted p [] (suc n) w = refl
any_inserted p (y ∷ ys) (suc n) w = ap (λ (b : Bool). p y || b) (any_inserted p ys n w) ∙ or-swap (p y) (p w) (list_any p ys)

-- those that pass a test, and the others
any_parted : (s p : ObjectRange → Bool) (ys : List ObjectRange) → (list_any (λ y. s y && p y) ys || list_any p (filter (λ y. not (s y)) ys)) ≡ list_any p ys
any_parted s p [] = refl
any_parted s p (y ∷ ys) = go (s y) (any_parted s p ys)
  where
    go : (b : Bool) → (list_any (λ y. s y && p y) ys || list_any p (filter (λ y. not (s y)) ys)) ≡ list_any p ys
        → (((b && p y) || list_any (λ y. s y && p y) ys) || list_any p (cond (not b) (y ∷ filter (λ y. not (s y)) ys) (filter (λ y. not (s y)) ys))) ≡ (p y || list_any p ys)
    go true later = or_assoc (p y) (list_any (λ y. s y && p y) ys) (list_any p (filter (λ y. not (s y)) ys)) ∙ ap (λ (b : Bool). p y || b) later
    go false later = or-swap (list_any (λ y. s y && p y) ys) (p y) (list_any p (filter (λ y. not (s y)) ys)) ∙ ap (λ (b : Bool). p y || b) later

-- ranges with one more
with_points : (o q : ℕ) (ys : List ObjectRange) (r : ObjectRange) → list_any (has_point o q) (with_range ys r) ≡ (has_point o q r || list_any (has_point o q) ys)
with_points o q ys r =
    let others : List ObjectRange = filter (λ y. not (is_shared y r)) ys in
    any_inserted (has_point o q) others _ (joined r ys) ∙ ap (λ (b : Bool). b || list_any (has_point o q) others) (joined_points o q r r ys (holds_self r))
    ∙ or_assoc (has_point o q r) (list_any (λ y. is_shared y r && has_point o q y) ys) (list_any (has_point o q) others)
    ∙ ap (λ (b : Bool). has_point o q r || b) (any_parted (λ y. is_shared y r) (has_point o q) ys)

-- ranges, joined one by one to others
pub in_turn_points : (o q : ℕ) (xs ys : List ObjectRange) → list_any (has_point o q) (fold with_range ys xs) ≡ (list_any (has_point o q) xs || list_any (has_point o q) ys)
in_turn_points o q [] ys = refl
in_turn_points o q (x ∷ xs) ys =
    in_turn_points o q xs (with_range ys x) ∙ ap (λ (b : Bool). list_any (has_point o q) xs || b) (with_points o q ys x)
    ∙ or_three (list_any (has_point o q) xs) (has_point o q x) (list_any (has_point o q) ys)

-- ranges that are joined with the next ones
pub neighbours_points : (o q : ℕ) (whole : ObjectRange) (xs : List ObjectRange) → list_any (has_point o q) (joined_after whole xs) ≡ (has_point o q whole || list_any (has_point o q) xs)
neighbours_points o q whole [] = refl
neighbours_points o q whole (x ∷ xs) = go (is_shared x whole) refl (neighbours_points o q (hull whole x) xs) (neighbours_points o q x xs)
  where
    go : (b : Bool) → is_shared x whole ≡ b → list_any (has_point o q) (joined_after (hull whole x) xs) ≡ (has_point o q (hull whole x) || list_any (has_point o q) xs)
        → list_any (has_point o q) (joined_after x xs) ≡ (has_point o q x || list_any (has_point o q) xs)
        → list_any (has_point o q) (cond b (joined_after (hull whole x) xs) (whole ∷ joined_after x xs)) ≡ (has_point o q whole || (has_point o q x || list_any (has_point o q) xs))
    go true shared larger next =
        larger ∙ ap (λ (b : Bool). b || list_any (has_point o q) xs) (hull_points o q whole whole x (holds_self whole) shared)
        ∙ or_assoc (has_point o q whole) (has_point o q x) (list_any (has_point o q) xs)
    go false apart larger next = ap (λ (b : Bool). has_point o q whole || b) next
