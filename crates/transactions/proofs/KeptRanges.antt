-- Ranges of plans within the limits: their ends fit 64 bits, so what is asked of them is asked of the ranges that
-- definitions speak of.
use Rattle.std.proofs.Common.{ℕ, ◌≡◌, ◌<◌, ◌+◌, ◌-◌, ◌^◌, Bool, true, false, ◌&&◌, List, [], ◌∷◌, length, map, get_or, take, nat_lt, nat_le, refl, sym, ap, ◌∙◌, arith}
use Rattle.std.specs.Prelude.{min}
use Rattle.std.specs.List.{list_any, list_all}
use Rattle.std.proofs.lemmas.Bool.{and_parts}
use Rattle.std.proofs.lemmas.Bool.Decides.{nat_tests}
use Rattle.std.proofs.lemmas.List.Folds.{list_all_at, list_all_more}
use Rattle.base.specs.declared.operation.Shape.{Shape}
use Rattle.base.specs.declared.operation.Shape.TheVariants as shape
use Rattle.base.specs.formats.Limits.{max_length, object_count}
use Rattle.base.specs.history.Plans.{NumberRange, range_of, is_shape_allowed, is_plan_allowed, overlaps, lies_in, plans_overlap}
use Rattle.base.proofs.common.KeptLists.{any_map}
use Rattle.transactions.specs.Ranges.{kept_range_of, kept_ranges_overlap, has_kept_in, has_range_in}

end_fits : (offset count : ℕ) → nat_le (offset + count) max_length ≡ true → min (offset + count) (2 ^ 64 - 1) ≡ offset + count
end_fits offset count h = grind (arith, nat_tests)

pub kept_same : (x : Shape) → is_shape_allowed x ≡ true → kept_range_of x ≡ range_of x
kept_same (shape.Create n) h = refl
kept_same (shape.Remove n) h = refl
kept_same (shape.Write n offset count) h =
    let last = and_parts (nat_lt n.0 object_count && nat_lt 0 count) (nat_le (offset + count) max_length) h in rw (end_fits offset count last.1) refl
kept_same (shape.SetLength n new) h = refl
kept_same (shape.SetName count) h = refl

-- if each element passes a test
pub each_passes : {X : Type 0} (p : X → Bool) (xs : List X) → list_all p xs ≡ true → (k : ℕ) (d : X) → k < length xs → p (get_or xs k d) ≡ true
each_passes p xs all k d below = go (p (get_or xs k d)) refl
  where
    go : (b : Bool) → p (get_or xs k d) ≡ b → p (get_or xs k d) ≡ true
    go true e = e
    go false e = absurd (let none = list_all_at p xs k d below e in let no : true ≡ false = sym all ∙ none in cc)

-- tests that agree at each element of a kind agree at a list of them
pub any_agree : {X : Type 0} (P p q : X → Bool) → ((x : X) → P x ≡ true → p x ≡ q x) → (xs : List X) → list_all P xs ≡ true → list_any p xs ≡ list_any q xs
any_agree P p q same [] all = refl
any_agree P p q same (x ∷ xs) all =
    let parts = and_parts (P x) (list_all P xs) all in
    rw (same x parts.0, any_agree P p q same xs parts.1) refl

pub allowed_shapes : (plan : List Shape) → is_plan_allowed plan ≡ true → list_all is_shape_allowed plan ≡ true
allowed_shapes plan h = (and_parts (nat_lt 0 (length plan)) (list_all is_shape_allowed plan) h).1

-- a range of a plan lies in a range
pub lies_same : (t : NumberRange) (plan : List Shape) → is_plan_allowed plan ≡ true → has_kept_in t plan ≡ has_range_in t plan
lies_same t plan h =
    any_agree is_shape_allowed (λ x. lies_in (kept_range_of x) t) (λ x. lies_in (range_of x) t) (λ x k. ap (λ r. lies_in r t) (kept_same x k)) plan (allowed_shapes plan h)

-- ranges of two plans overlap
touches_same : (x : Shape) (other : List Shape) → is_shape_allowed x ≡ true → list_all is_shape_allowed other ≡ true
    → list_any (λ y. overlaps (kept_range_of x) (kept_range_of y)) other ≡ list_any (overlaps (range_of x)) (map range_of other)
touches_same x other h all =
    any_agree is_shape_allowed (λ y. overlaps (kept_range_of x) (kept_range_of y)) (λ y. overlaps (range_of x) (range_of y)) (λ y k. rw (kept_same x h, kept_same y k) refl) other all
    ∙ sym (any_map (overlaps (range_of x)) range_of other)

pub overlap_same : (plan other : List Shape) → is_plan_allowed plan ≡ true → is_plan_allowed other ≡ true → kept_ranges_overlap plan other ≡ plans_overlap plan other
overlap_same plan other h also =
    any_agree is_shape_allowed (λ x. list_any (λ y. overlaps (kept_range_of x) (kept_range_of y)) other) (λ x. list_any (overlaps (range_of x)) (map range_of other)) (λ x k. touches_same x other k (allowed_shapes other also)) plan (allowed_shapes plan h)
    ∙ sym (any_map (λ r. list_any (overlaps r) (map range_of other)) range_of plan)

-- if the elements so far pass a test, and one more does
pub one_more_passes : {X : Type 0} (p : X → Bool) (xs : List X) (k : ℕ) (d : X) → k < length xs → list_all p (take k xs) ≡ true → p (get_or xs k d) ≡ true → list_all p (take (k + 1) xs) ≡ true
one_more_passes p xs k d below so_far this = rw (list_all_more p xs k d below, so_far, this) refl
