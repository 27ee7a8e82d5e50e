-- The ranges of a plan, one shape after another.
use Rattle.std.proofs.Common.{◌≡◌, ℕ, ◌+◌, ◌≤◌, ◌<◌, List, [], get_or, length, map, take, ap, sym, ◌∙◌}
use Rattle.std.specs.Prelude.{fold}
use Rattle.std.proofs.lemmas.List.{take_all}
use Rattle.std.proofs.lemmas.List.Folds.{fold-map}
use Rattle.std.proofs.lemmas.List.Sums.{fold_more}
use Rattle.base.specs.declared.operation.Shape.{Shape}
use Rattle.base.specs.declared.range.ObjectRange.{ObjectRange}
use Rattle.base.specs.history.Plans.{NumberRange, number_range}
use Rattle.transactions.specs.LockRanges.{lock_ranges, shape_range, with_range}
use Rattle.transactions.specs.Ranges.{kept_range_of}

-- the ranges of the first so many shapes
abbrev pub ranges_of_front : ℕ → List Shape → List ObjectRange
ranges_of_front i plan = fold with_range [] (map shape_range (take i plan))

-- a range of these ends is the one of this shape
is_shape_range : (range : ObjectRange) (x : Shape) → number_range range ≡ kept_range_of x → range ≡ shape_range x
is_shape_range range x is = ap (λ (r : NumberRange). record { object = record { 0 = r.number }; range = record { low = r.low; high = r.high } }) is

-- with the range of the next shape
pub one_more_range : (i : ℕ) (plan : List Shape) (d : Shape) (ranges new : List ObjectRange) (range : ObjectRange) → i < length plan → ranges ≡ ranges_of_front i plan
    → number_range range ≡ kept_range_of (get_or plan i d) → new ≡ with_range ranges range → new ≡ ranges_of_front (i + 1) plan
one_more_range i plan d ranges new range below are is told =
    let x : Shape = get_or plan i d in
    let f : List ObjectRange → Shape → List ObjectRange = λ rs x. with_range rs (shape_range x) in
    told ∙ ap (with_range ranges) (is_shape_range range x is) ∙ ap (λ (rs : List ObjectRange). with_range rs (shape_range x)) are
    ∙ ap (λ (rs : List ObjectRange). with_range rs (shape_range x)) (fold-map with_range shape_range [] (take i plan))
    ∙ sym (fold_more f [] plan i d below) ∙ sym (fold-map with_range shape_range [] (take (i + 1) plan))

pub all_shapes_added : (i : ℕ) (plan : List Shape) → length plan ≤ i → ranges_of_front i plan ≡ lock_ranges plan
unfolding lock_ranges
all_shapes_added i plan past = ap (λ (xs : List Shape). fold with_range [] (map shape_range xs)) (take_all i plan past)
