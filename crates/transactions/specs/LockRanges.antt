-- The ranges that a transaction locks: those of its plan, in rising order, with those that overlap joined to one.
use Rattle.std.specs.Prelude.{◌≡◌, ◌==◌, ◌&&◌, ◌||◌, Bool, not, List, [], ◌∷◌, count_by, false, filter, fold, insert, map, max, min, nat_lt, if◌then◌else◌}
use Rattle.base.specs.declared.operation.Shape.{Shape}
use Rattle.base.specs.declared.range.ObjectRange.{ObjectRange}
use Rattle.base.specs.history.Plans.{number_range, overlaps}
use Rattle.transactions.specs.Ranges.{kept_range_of}

-- whether two ranges have a byte in common
abbrev pub is_shared : ObjectRange → ObjectRange → Bool
is_shared a b = overlaps (number_range a) (number_range b)

-- the least range of the first one's object that has the bytes of both
abbrev pub hull : ObjectRange → ObjectRange → ObjectRange
hull a b = record { object = a.object; range = record { low = min a.range.low b.range.low; high = max a.range.high b.range.high } }

-- a range with this one, if it overlaps that one
abbrev pub with_shared : ObjectRange → ObjectRange → ObjectRange → ObjectRange
with_shared range whole other = if is_shared other range then hull whole other else whole

-- a range with each of these that it overlaps
abbrev pub joined : ObjectRange → List ObjectRange → ObjectRange
joined range others = fold (with_shared range) range others

-- whether the first range begins before the second, by object and then by low end
abbrev pub is_before : ObjectRange → ObjectRange → Bool
is_before a b = nat_lt a.object.0 b.object.0 || ((a.object.0 == b.object.0) && nat_lt a.range.low b.range.low)

-- the ranges in order, with this one among them
abbrev pub placed : ObjectRange → List ObjectRange → List ObjectRange
placed range others = insert others (count_by (λ x. is_before x range) others) range

-- ranges of which no two overlap, with this one more
abbrev pub with_range : List ObjectRange → ObjectRange → List ObjectRange
with_range others range = placed (joined range others) (filter (λ x. not (is_shared x range)) others)

-- the range that a shape touches, with an end that fits 64 bits
abbrev pub shape_range : Shape → ObjectRange
shape_range x = record { object = record { 0 = (kept_range_of x).number }; range = record { low = (kept_range_of x).low; high = (kept_range_of x).high } }

-- the ranges of a plan, in rising order, with those that overlap joined to one
unfoldable pub lock_ranges : List Shape → List ObjectRange
lock_ranges plan = fold with_range [] (map shape_range plan)

-- whether a range has a byte
abbrev pub has_byte : ObjectRange → Bool
has_byte x = nat_lt x.range.low x.range.high

-- a range and those after it, each joined with the next ones as long as it overlaps them
abbrev pub joined_after : ObjectRange → List ObjectRange → List ObjectRange
joined_after whole [] = whole ∷ []
joined_after whole (x ∷ xs) = if is_shared x whole then joined_after (hull whole x) xs else whole ∷ joined_after x xs

abbrev pub joined_neighbours : List ObjectRange → List ObjectRange
joined_neighbours [] = []
joined_neighbours (x ∷ xs) = joined_after x xs

-- none of these ranges begins before this one
abbrev pub AreAfter : ObjectRange → List ObjectRange → Type 0
AreAfter x [] = Unit {0}
AreAfter x (y ∷ ys) = (is_before y x ≡ false) × AreAfter x ys

-- none begins before one that it follows
abbrev pub Rise : List ObjectRange → Type 0
Rise [] = Unit {0}
Rise (x ∷ xs) = AreAfter x xs × Rise xs

-- the ranges that a plan has to lock rise
abbrev pub LockRangesRise : Type 0
LockRangesRise = (plan : List Shape) → Rise (lock_ranges plan)
