-- The ranges of a plan in order, and beside each the ends that say what may overlap or lie in a range.
use Rattle.std.specs.Prelude.{ℕ, ◌≡◌, ◌<◌, ◌+◌, ◌==◌, ◌&&◌, ◌||◌, Bool, List, drop, length, nat_le, nat_lt, slice_index_or, take}
use Rattle.std.specs.List.{list_any}
use Rattle.std.specs.List.Sorted.{IsSortedBy}
use Rattle.base.specs.declared.range.ObjectRange.{ObjectRange}
use Rattle.transactions.specs.LockRanges.{is_before}

-- ranges of which none begins before one that it follows, by object and then by low end
abbrev pub AreInOrder : List ObjectRange → Type 0
AreInOrder ranges = IsSortedBy is_before ranges

-- whether a range begins before a place of an object, by object and then by low end
abbrev pub begins_before : ℕ → ℕ → ObjectRange → Bool
begins_before object place x = nat_lt x.object.0 object || ((x.object.0 == object) && nat_lt x.range.low place)

abbrev pub high_of : ObjectRange → ℕ
high_of x = x.range.high

-- whether a range is of an object and ends after a place, and whether it ends by it
abbrev pub ends_after : ℕ → ℕ → ObjectRange → Bool
ends_after object place x = (x.object.0 == object) && nat_lt place x.range.high

abbrev pub ends_by : ℕ → ℕ → ObjectRange → Bool
ends_by object place x = (x.object.0 == object) && nat_le x.range.high place

-- the highest end of the ranges of an object up to the k-th, which is of it: after a place if one of theirs is
abbrev pub IsHighest : List ObjectRange → ℕ → ℕ → Type 0
IsHighest ranges k end = (place : ℕ) (d : ObjectRange) → nat_lt place end ≡ list_any (ends_after (slice_index_or ranges k d).object.0 place) (take (k + 1) ranges)

-- the least end of the ranges of an object from the k-th on, which is of it: by a place if one of theirs is
abbrev pub IsLeast : List ObjectRange → ℕ → ℕ → Type 0
IsLeast ranges k end = (place : ℕ) (d : ObjectRange) → nat_le end place ≡ list_any (ends_by (slice_index_or ranges k d).object.0 place) (drop k ranges)

-- for each range the one, and the other
pub record AreHighest (ranges : List ObjectRange) (ends : List ℕ) : Type 0 where
  pub long : length ends ≡ length ranges
  pub each : (k : ℕ) → k < length ranges → IsHighest ranges k (slice_index_or ends k 0)

pub record AreLeast (ranges : List ObjectRange) (ends : List ℕ) : Type 0 where
  pub long : length ends ≡ length ranges
  pub each : (k : ℕ) → k < length ranges → IsLeast ranges k (slice_index_or ends k 0)

-- ranges in order, with these ends
pub record IsIndex (ranges : List ObjectRange) (highest_ends least_ends : List ℕ) : Type 0 where
  pub order : AreInOrder ranges
  pub highest : AreHighest ranges highest_ends
  pub least : AreLeast ranges least_ends
