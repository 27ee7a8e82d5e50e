-- What reads of objects give: the length of an object, one of its records, bytes from an offset on, and a range of its
-- bytes.
use Rattle.std.specs.Prelude.{ℕ, ◌≡◌, ◌<◌, ◌+◌, List, [], get_or, length, Option, option_map, unwrap_or}
use Rattle.std.specs.Ordering.{nat_cmp}
use Rattle.std.specs.FinMap as finite
use Rattle.std.specs.FinMap.{FinMap}
use Rattle.base.specs.declared.names.ObjectId.{ObjectId}
use Rattle.base.specs.declared.range.Range.{Range}
use Rattle.base.specs.steps.Refusals.{object_range}
use Rattle.base.specs.steps.Steps as steps
use Rattle.base.specs.kept.PlacedTrees.{padded_record}

-- the length of object n, None if there is no such object
abbrev pub object_length : FinMap nat_cmp (List ℕ) → ℕ → Option ℕ
object_length objects n = option_map length (finite.get objects n)

-- the bytes of object n, none if there is no such object
abbrev pub object_bytes : FinMap nat_cmp (List ℕ) → ℕ → List ℕ
object_bytes objects n = unwrap_or (finite.get objects n) []

-- record r of object n with zeros after the object's end; an object that is not there has zeros alone
abbrev pub object_record : FinMap nat_cmp (List ℕ) → ℕ → ℕ → List ℕ
object_record objects n r = padded_record r (object_bytes objects n)

-- these are an object's bytes from an offset on, with zeros after its end
abbrev pub AreBytesFrom : ℕ → List ℕ → List ℕ → Type 0
AreBytesFrom offset object bytes = (k : ℕ) → k < length bytes → get_or bytes k 0 ≡ get_or object (offset + k) 0

-- the bytes of a range of an object that lie below its length, none if there is no such object
abbrev pub range_in : FinMap nat_cmp (List ℕ) → ObjectId → Range → List ℕ
range_in objects id range = steps.bytes_in (object_range id.0 range.low range.high) (object_bytes objects id.0)
