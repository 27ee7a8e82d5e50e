-- Objects within the limits of a pool, and the list of their lengths.
use Rattle.std.specs.Prelude.{ℕ, ◌≤◌, ◌<◌, IfSome, List, length, map}
use Rattle.std.specs.Ordering.{nat_cmp}
use Rattle.std.specs.FinMap as finite
use Rattle.std.specs.FinMap.{FinMap}
use Rattle.base.specs.declared.names.ObjectId.{ObjectId}
use Rattle.base.specs.formats.Limits.{object_count, max_length}

-- objects within the limits of a pool: each has a number below the count of objects, and is no longer than the greatest
-- length
abbrev pub AreWithin : FinMap nat_cmp (List ℕ) → Type 0
AreWithin objects = (n : ℕ) → IfSome (finite.get objects n) (λ bytes. (n < object_count) × (length bytes ≤ max_length))

-- the numbers of objects, rising, each with the object's length
abbrev pub listed : FinMap nat_cmp (List ℕ) → List (ObjectId × ℕ)
listed objects = map (λ (e : ℕ × List ℕ). (record { 0 = e.0 }, length e.1)) (finite.entries objects)
