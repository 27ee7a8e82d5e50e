-- What plans touch, with ends that fit 64 bits: of allowed plans these are the ranges that definitions speak of.
use Rattle.std.specs.Prelude.{◌+◌, ◌-◌, ◌^◌, Bool, List, min}
use Rattle.std.specs.List.{list_any}
use Rattle.base.specs.declared.operation.Shape.{Shape}
use Rattle.base.specs.declared.operation.Shape.TheVariants as shape
use Rattle.base.specs.formats.Limits.{name_number}
use Rattle.base.specs.history.Plans.{NumberRange, lies_in, overlaps, range_of, whole_range}

-- the range that a shape touches, with an end that fits 64 bits
abbrev pub kept_range_of : Shape → NumberRange
kept_range_of (shape.Create n) = whole_range n.0
kept_range_of (shape.Remove n) = whole_range n.0
kept_range_of (shape.Write n offset count) = record { number = n.0; low = offset; high = min (offset + count) (2 ^ 64 - 1) }
kept_range_of (shape.SetLength n new) = whole_range n.0
kept_range_of (shape.SetName count) = whole_range name_number

-- whether a range overlaps one of a plan, and whether one of a plan does
abbrev pub overlaps_kept : NumberRange → List Shape → Bool
overlaps_kept range plan = list_any (λ x. overlaps range (kept_range_of x)) plan

abbrev pub kept_ranges_overlap : List Shape → List Shape → Bool
kept_ranges_overlap plan other = list_any (λ x. overlaps_kept (kept_range_of x) other) plan

-- whether a range of a plan lies in this one
abbrev pub has_kept_in : NumberRange → List Shape → Bool
has_kept_in range plan = list_any (λ x. lies_in (kept_range_of x) range) plan

abbrev pub has_range_in : NumberRange → List Shape → Bool
has_range_in range plan = list_any (λ x. lies_in (range_of x) range) plan
