-- Plans of transactions: what they touch, their limits, their estimates and charges.
use Rattle.std.specs.Prelude.{ℕ, ◌≡◌, ◌<◌, ◌≤◌, ◌+◌, ◌-◌, ◌*◌, ◌/◌, ◌==◌, ◌&&◌, Bool, true, false, List, length, map, nat_lt, nat_le, sum_by}
use Rattle.std.specs.List.{list_any, list_all}
use Rattle.std.specs.Option.{option_map_or}
use Rattle.base.specs.declared.operation.Op.{Op}
use Rattle.base.specs.declared.operation.Op.TheVariants.{Create, Remove, Write, SetLength, SetName}
use Rattle.base.specs.declared.operation.Shape.{Shape}
use Rattle.base.specs.declared.operation.Shape.TheVariants as shape
use Rattle.base.specs.declared.range.ObjectRange.{ObjectRange}
use Rattle.base.specs.formats.Limits.{object_count, name_number, max_length, one_level_length, record_size}
use Rattle.base.specs.formats.Names.{is_name_length}
use Rattle.base.specs.history.Contents.{Contents, length_of}

-- an operation with the length of its bytes in place of the bytes
abbrev pub shape_of : Op → Shape
shape_of (Create n) = shape.Create n
shape_of (Remove n) = shape.Remove n
shape_of (Write n offset bytes) = shape.Write n offset (length bytes)
shape_of (SetLength n new) = shape.SetLength n new
shape_of (SetName bytes) = shape.SetName (length bytes)

-- a byte range of a number: low is in it, high is not
pub record NumberRange : Type 0 where
  pub number : ℕ
  pub low : ℕ
  pub high : ℕ

-- the range of an object, or of the name's number, that code speaks of
abbrev pub number_range : ObjectRange → NumberRange
number_range t = record { number = t.object.0; low = t.range.low; high = t.range.high }

-- the whole range of an object, or of the name
abbrev pub whole_range : ℕ → NumberRange
whole_range number = record { number = number; low = 0; high = max_length }

-- the range that a shape touches
abbrev pub range_of : Shape → NumberRange
range_of (shape.Create n) = whole_range n.0
range_of (shape.Remove n) = whole_range n.0
range_of (shape.Write n offset count) = record { number = n.0; low = offset; high = offset + count }
range_of (shape.SetLength n new) = whole_range n.0
range_of (shape.SetName count) = whole_range name_number

-- the range that an operation touches
abbrev pub touched : Op → NumberRange
touched op = range_of (shape_of op)

-- the ranges of operations, and of a plan
abbrev pub ranges : List Op → List NumberRange
ranges ops = map touched ops

abbrev pub plan_ranges : List Shape → List NumberRange
plan_ranges plan = map range_of plan

-- a range that `begin` and `lock` take
pub record IsRange (t : NumberRange) : Type 0 where
  pub some : t.low < t.high
  pub within : t.high ≤ max_length

-- a byte of both ranges
pub record HaveCommon (a b : NumberRange) : Type 0 where
  pub number : a.number ≡ b.number
  pub k : ℕ
  pub in_a : (a.low ≤ k) × (k < a.high)
  pub in_b : (b.low ≤ k) × (k < b.high)

-- whether two ranges have a byte in common
abbrev pub overlaps : NumberRange → NumberRange → Bool
overlaps a b = (a.number == b.number) && (nat_lt a.low b.high && nat_lt b.low a.high)

-- whether the first range lies in the second
abbrev pub lies_in : NumberRange → NumberRange → Bool
lies_in a b = (a.number == b.number) && (nat_le b.low a.low && nat_le a.high b.high)

-- whether a range of the one list overlaps one of the other
abbrev pub clash : List NumberRange → List NumberRange → Bool
clash xs ys = list_any (λ x. list_any (overlaps x) ys) xs

-- whether some range of the one plan overlaps some range of the other
abbrev pub plans_overlap : List Shape → List Shape → Bool
plans_overlap p q = clash (plan_ranges p) (plan_ranges q)

-- whether a shape is within its limits
abbrev pub is_shape_allowed : Shape → Bool
is_shape_allowed (shape.Create n) = nat_lt n.0 object_count
is_shape_allowed (shape.Remove n) = nat_lt n.0 object_count
is_shape_allowed (shape.Write n offset count) = nat_lt n.0 object_count && nat_lt 0 count && nat_le (offset + count) max_length
is_shape_allowed (shape.SetLength n new) = nat_lt n.0 object_count && nat_le new max_length
is_shape_allowed (shape.SetName count) = is_name_length count

-- whether a plan has a shape and each is within its limits
abbrev pub is_plan_allowed : List Shape → Bool
is_plan_allowed plan = nat_lt 0 (length plan) && list_all is_shape_allowed plan

-- how many bytes a log record has for an operation of this shape
abbrev pub size_of_shape : Shape → ℕ
size_of_shape (shape.Create n) = 5
size_of_shape (shape.Remove n) = 5
size_of_shape (shape.Write n offset count) = 17 + count
size_of_shape (shape.SetLength n new) = 13
size_of_shape (shape.SetName count) = 5 + count

-- how many bytes a log record of these shapes has
abbrev pub log_record_size : List Shape → ℕ
log_record_size plan = 22 + sum_by size_of_shape plan

-- how many records of an object a range of at least one byte touches
abbrev pub records_touched : ℕ → ℕ → ℕ
records_touched offset count = (offset + count - 1) / record_size - offset / record_size + 1

-- how many indirect blocks of an object of two levels lie above these
abbrev pub strips_touched : ℕ → ℕ → ℕ
strips_touched offset count = (offset + count - 1) / one_level_length - offset / one_level_length + 1

-- the most blocks that a sync takes for an operation of this shape
abbrev pub estimate_of_shape : Shape → ℕ
estimate_of_shape (shape.Create n) = 2
estimate_of_shape (shape.Remove n) = 2
estimate_of_shape (shape.Write n offset count) = records_touched offset count + strips_touched offset count + 3
estimate_of_shape (shape.SetLength n new) = 5
estimate_of_shape (shape.SetName count) = 1

abbrev pub estimate_of : List Shape → ℕ
estimate_of plan = sum_by estimate_of_shape plan

-- and if no object has two levels, as in version 1
abbrev pub one_level_estimate_of_shape : Shape → ℕ
one_level_estimate_of_shape (shape.Create n) = 2
one_level_estimate_of_shape (shape.Remove n) = 2
one_level_estimate_of_shape (shape.Write n offset count) = records_touched offset count + 3
one_level_estimate_of_shape (shape.SetLength n new) = 4
one_level_estimate_of_shape (shape.SetName count) = 1

abbrev pub one_level_estimate_of : List Shape → ℕ
one_level_estimate_of plan = sum_by one_level_estimate_of_shape plan

-- the bytes that a plan is charged
abbrev pub charge_of : List Shape → ℕ
charge_of plan = 4096 * estimate_of plan

-- whether a shape removes an object, or sets a present object to no more than its length
abbrev pub is_shape_shrinking : Contents → Shape → Bool
is_shape_shrinking c (shape.Create n) = false
is_shape_shrinking c (shape.Remove n) = true
is_shape_shrinking c (shape.Write n offset count) = false
is_shape_shrinking c (shape.SetLength n new) = option_map_or (λ old. nat_le new old) (length_of c n.0) false
is_shape_shrinking c (shape.SetName count) = false

-- whether each shape of a plan does
abbrev pub is_shrinking : Contents → List Shape → Bool
is_shrinking c plan = list_all (is_shape_shrinking c) plan
