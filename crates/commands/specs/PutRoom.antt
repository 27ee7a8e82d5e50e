-- Whether there is room for a put: the blocks that its bytes need at least, and those that it may use.
use Rattle.std.specs.Prelude.{ℕ, ◌+◌, ◌-◌, ◌/◌, ◌==◌, if◌then◌else◌, Bool, List, Option, Result, Ok, Err, length, max, min, nat_lt}
use Rattle.base.specs.declared.error.PoolError.{PoolError}
use Rattle.base.specs.formats.Limits.{max_length, one_level_length, record_size}
use Rattle.commands.specs.Puts.{first_byte}
use Rattle.commands.specs.declared.changes.Start.{Start}
use Rattle.commands.specs.declared.changes.Start.TheVariants.{Creates, Empties, Keeps}

-- how many parts of this size hold bytes of an object from one place on, below another
abbrev pub parts_between : ℕ → ℕ → ℕ → ℕ
parts_between size low high = (high + size - 1) / size - low / size

-- the data blocks of these bytes, and the indirect blocks above them
abbrev pub blocks_between : ℕ → ℕ → ℕ
blocks_between low high = parts_between record_size low high + parts_between one_level_length low high

-- the tops of an object of this length: one if it has two levels
abbrev pub tops : ℕ → ℕ
tops size = if nat_lt one_level_length size then 1 else 0

-- the length of an object after bytes were put that end there, by the length that it had
abbrev pub length_after : Start → ℕ → ℕ → ℕ
length_after Keeps end found = max found end
length_after start end found = end

-- the directory and the root that each put writes, unless it changes nothing
abbrev pub changed_blocks : Start → ℕ
changed_blocks Keeps = 0
changed_blocks start = 2

-- the blocks that a put of so many bytes writes at least, into an object of this length
abbrev pub needed_blocks : Start → ℕ → ℕ → ℕ → ℕ
needed_blocks start at size found =
    if size == 0 then changed_blocks start else blocks_between at (at + size) + tops (length_after start (at + size) found) + 2

-- the most blocks of the object, which has this length, that a put replaces or frees
abbrev pub freed_blocks : Start → ℕ → ℕ → ℕ → ℕ
freed_blocks Creates at end found = 0
freed_blocks Empties at end found = blocks_between 0 found + tops found
freed_blocks Keeps at end found = blocks_between at (min end found) + tops found

-- the length that an object was found to have, if it is there
abbrev pub length_found : Result ℕ PoolError → ℕ
length_found (Ok size) = min size max_length
length_found (Err e) = 0

-- a put that starts so needs more blocks than are available and than it frees of its object
abbrev pub is_short : Start → ℕ → ℕ → ℕ → ℕ → Bool
is_short start at size found available = nat_lt (freed_blocks start at (at + size) found) (needed_blocks start at size found - available)

-- so it is of these bytes
abbrev pub lacks_room : Start → Option ℕ → List ℕ → Result ℕ PoolError → ℕ → Bool
lacks_room start offset bytes found available = is_short start (first_byte offset) (length bytes) (length_found found) available
