-- The held ranges of each number, cut at the ends of its locks: what the tables of parts have.
use Rattle.std.specs.Prelude.{ℕ, ◌≡◌, ◌+◌, ◌-◌, ◌*◌, ◌<◌, ◌≤◌, ◌==◌, ◌&&◌, ◌||◌, Bool, true, false, not, Option, Some, None, IfSome, is_some, List, sum_by, slice_get, nat_eq, nat_lt, nat_le, if◌then◌else◌}
use Rattle.std.specs.List.{count_by, find}
use Rattle.std.specs.Option.{option_map}
use Rattle.range_locks.specs.Rows.{PartRows, part_in}
use Rattle.std.specs.HashMap as hashes
use Rattle.std.specs.HashMap.{HashMap}
use Rattle.base.specs.declared.names.LockId.{LockId}
use Rattle.base.specs.declared.range.Mode.{Mode}
use Rattle.base.specs.declared.range.Mode.TheVariants.{Reader, Writer}
use Rattle.base.specs.declared.range.Range.{Range}
use Rattle.base.specs.formats.Limits.{max_locks}
use Rattle.base.specs.steps.Locks.{Grant, is_reader}
use Rattle.range_locks.specs.Pieces.{covers_byte}
use Rattle.range_locks.specs.Locks.{LockTable, AreHeld}
use Rattle.range_locks.specs.declared.parts.Part.{Part}
use Rattle.range_locks.specs.declared.parts.Parts.{Parts}
use Rattle.range_locks.specs.declared.parts.Change.{Change}
use Rattle.range_locks.specs.declared.parts.Change.TheVariants.{ReaderCame, ReaderLeft, WriterCame, WriterLeft}

-- whether some lock covers a part
abbrev pub is_covered_part : Part → Bool
is_covered_part p = is_some p.writer || nat_lt 0 p.readers

-- whether a part keeps a lock of this mode away
abbrev pub blocks_part : Mode → Part → Bool
blocks_part mode p = is_some p.writer || (nat_lt 0 p.readers && not (is_reader mode))

-- for each offset of a number: how many locks begin or end there, how many readers cover it, and which writer
abbrev pub Counts : Type 0
Counts = ℕ → Part

-- how many ends of a lock lie at an offset of a number
abbrev pub ends_at : ℕ → ℕ → Grant → ℕ
ends_at n k g = (if (n == g.range.number) && (k == g.range.low) then 1 else 0) + (if (n == g.range.number) && (k == g.range.high) then 1 else 0)

-- whether a reader covers an offset of a number, and whether a writer does
abbrev pub reads_at : ℕ → ℕ → Grant → Bool
reads_at n k g = is_reader g.mode && covers_byte n k g

abbrev pub writes_at : ℕ → ℕ → Grant → Bool
writes_at n k g = not (is_reader g.mode) && covers_byte n k g

abbrev pub name_of : Grant → LockId
name_of g = record { 0 = g.id }

-- what held locks count to at a number
abbrev pub counts_of : ℕ → List Grant → Counts
counts_of n locks k = record {
  ends = sum_by (ends_at n k) locks;
  readers = count_by (reads_at n k) locks;
  writer = option_map name_of (find (writes_at n k) locks);
}

-- the table has the offsets where a lock begins or ends
abbrev pub stored_part : Part → Option Part
stored_part p = if p.ends == 0 then None else Some p

abbrev pub IsTable : PartRows → Counts → Type 0
IsTable table f = (k : ℕ) → part_in table k ≡ stored_part (f k)

-- the table has nothing at the offsets from one to another
abbrev pub HasNone : PartRows → ℕ → ℕ → Type 0
HasNone table low high = (k : ℕ) → low ≤ k → k < high → part_in table k ≡ None

-- the table has no parts at all
abbrev pub HasNoParts : PartRows → Type 0
HasNoParts table = (k : ℕ) → part_in table k ≡ None

-- a table of counts becomes one of other counts
abbrev pub Becomes : PartRows → (Counts → Counts) → PartRows → Type 0
Becomes old change new = (f : Counts) → IsTable old f → IsTable new (change f)

-- what covers an offset changes only if a lock begins or ends
pub record IsStill (f : Counts) : Type 0 where
  pub first : (f 0).ends ≡ 0 → ((f 0).readers ≡ 0) × ((f 0).writer ≡ None)
  pub next : (k : ℕ) → (f (k + 1)).ends ≡ 0 → ((f (k + 1)).readers ≡ (f k).readers) × ((f (k + 1)).writer ≡ (f k).writer)

-- what is true of the counts of a table, where these are still
abbrev pub HoldsFor : PartRows → (Counts → Type 0) → Type 0
HoldsFor table P = (f : Counts) → IsTable table f → IsStill f → P f

-- one lock more or one fewer begins or ends at an offset
abbrev pub with_end : ℕ → Counts → Counts
with_end offset f k = if k == offset then record (f k) { ends = (f k).ends + 1 } else f k

abbrev pub without_end : ℕ → Counts → Counts
without_end offset f k = if k == offset then record (f k) { ends = (f k).ends - 1 } else f k

-- what a lock changes of the parts that it covers, as it is granted and as it is released
abbrev pub change_of_grant : LockId → Mode → Change
change_of_grant id Reader = ReaderCame
change_of_grant id Writer = WriterCame id

abbrev pub change_of_release : Mode → Change
change_of_release Reader = ReaderLeft
change_of_release Writer = WriterLeft

abbrev pub recounted_part : Change → Part → Part
recounted_part ReaderCame p = record p { readers = p.readers + 1 }
recounted_part ReaderLeft p = record p { readers = p.readers - 1 }
recounted_part (WriterCame id) p = record p { writer = Some id }
recounted_part WriterLeft p = record p { writer = None }

-- no count is above this one: each lock has two ends
abbrev pub most_counted : ℕ
most_counted = 2 * max_locks

-- whether that can be counted
abbrev pub CanRecountPart : Change → Part → Type 0
CanRecountPart ReaderCame p = p.readers ≤ most_counted
CanRecountPart ReaderLeft p = 0 < p.readers
CanRecountPart (WriterCame id) p = Unit {0}
CanRecountPart WriterLeft p = Unit {0}

abbrev pub CanRecount : Range → Change → PartRows → Type 0
CanRecount r change table = (k : ℕ) → r.low ≤ k → k < r.high → IfSome (part_in table k) (CanRecountPart change)

-- the table is one of counts, and none is above a number
pub record HasCounts (most : ℕ) (table : PartRows) : Type 0 where
  pub counts : ℕ → Part
  pub is : IsTable table counts
  pub still : IsStill counts
  pub small : (k : ℕ) → ((counts k).ends ≤ most) × ((counts k).readers ≤ most)

-- a change at the offsets of a range
abbrev pub recounted : Range → Change → Counts → Counts
recounted r change f k = if nat_le r.low k && nat_lt k r.high then recounted_part change (f k) else f k

-- one lock more, and one fewer
abbrev pub with_lock : Range → Change → Counts → Counts
with_lock r change f = recounted r change (with_end r.high (with_end r.low f))

abbrev pub without_lock : Range → Change → Counts → Counts
without_lock r change f = without_end r.high (without_end r.low (recounted r change f))

-- some offset of a range keeps a lock of a mode away, or none does
pub record IsBlockedIn (r : Range) (mode : Mode) (f : Counts) : Type 0 where
  pub offset : ℕ
  pub in_range : (r.low ≤ offset) × (offset < r.high)
  pub blocks : blocks_part mode (f offset) ≡ true

abbrev pub IsFreeIn : Range → Mode → Counts → Type 0
IsFreeIn r mode f = (k : ℕ) → r.low ≤ k → k < r.high → blocks_part mode (f k) ≡ false

-- held locks, and a table of the parts of a number that is theirs
pub record AreCounted (n : ℕ) (held : LockTable) (table : PartRows) : Type 0 where
  pub are : AreHeld held
  pub is : IsTable table (counts_of n held.locks)

-- the parts of a number, where some lock of it is held
abbrev pub parts_of : {S : Type 0} → HashMap ℕ Parts S → ℕ → Option Parts
parts_of numbers n = hashes.get nat_eq numbers n

-- the place of a number's parts among all entries, or that it has none
abbrev pub IsPlaceOf : {S : Type 0} → HashMap ℕ Parts S → ℕ → Option ℕ → Type 0
IsPlaceOf numbers n None = parts_of numbers n ≡ None
IsPlaceOf numbers n (Some place) = (parts : Parts) × (slice_get numbers.entries place ≡ Some (n, parts)) × (parts_of numbers n ≡ Some parts)

-- they are those of counts: without parts no lock begins or ends
abbrev pub IsTableOf : Option Parts → Counts → Type 0
IsTableOf None f = (k : ℕ) → (f k).ends ≡ 0
IsTableOf (Some parts) f = IsTable parts.table f

-- what is true of the counts of the parts of a number, and what these become
abbrev pub HoldsOf : Option Parts → (Counts → Type 0) → Type 0
HoldsOf parts P = (f : Counts) → IsTableOf parts f → IsStill f → P f

abbrev pub BecomesOf : Option Parts → (Counts → Counts) → Option Parts → Type 0
BecomesOf old change new = (f : Counts) → IsTableOf old f → IsTableOf new (change f)

-- held locks, and the parts of all numbers that are theirs
pub record AreAllCounted {S : Type 0} (held : LockTable) (numbers : HashMap ℕ Parts S) : Type 0 where
  pub are : AreHeld held
  pub is : (n : ℕ) → IsTableOf (parts_of numbers n) (counts_of n held.locks)
