-- The blocks that an object of a length may have, and the list that prints them.
use Rattle.std.specs.Prelude.{ℕ, ◌+◌, ◌++◌, if◌then◌else◌, codes, List, nat_lt}
use Rattle.std.specs.Fmt.{decimal}
use Rattle.std.specs.Int.{div_ceil}
use Rattle.std.specs.List.{flat_map}
use Rattle.base.specs.declared.names.ObjectId.{ObjectId}
use Rattle.base.specs.formats.Limits.{one_level_length, record_size}

-- the most blocks that an object of this length has: of its data, of the pointers to them, and a top if it has two levels
abbrev pub most_blocks : ℕ → ℕ
most_blocks size = div_ceil size record_size + div_ceil size one_level_length + (if nat_lt one_level_length size then 1 else 0)

-- a line for each object: its number, its length and its blocks
abbrev pub long_text : ObjectId × ℕ → List ℕ
long_text object = decimal object.0.0 ++ (codes " " ++ (decimal object.1 ++ (codes " " ++ decimal (most_blocks object.1))))

abbrev pub long_line : ObjectId × ℕ → List ℕ
long_line object = long_text object ++ codes "\n"

abbrev pub long_lines : List (ObjectId × ℕ) → List ℕ
long_lines = flat_map long_line
