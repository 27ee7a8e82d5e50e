-- The bytes that a group wrote into a record, by a mask.
use Rattle.std.specs.Prelude.{cond, ℕ, ◌-◌, ◌==◌, ◌||◌, ◌++◌, Bool, List, get_or, length, replicate, Option, Some, None, unwrap_or}

-- a byte was written, or not
abbrev pub is_mark : ℕ → Bool
is_mark m = (m == 0) || (m == 255)

-- the byte at an offset, by its mark
abbrev pub marked_byte : ℕ → ℕ → Option ℕ
marked_byte mark byte = cond (mark == 0) None (Some byte)

abbrev pub byte_in : List ℕ → List ℕ → ℕ → Option ℕ
byte_in bytes mask k = marked_byte (get_or mask k 0) (get_or bytes k 0)

-- a byte laid over the one below
abbrev pub laid_byte : ℕ → ℕ → ℕ → ℕ
laid_byte mark byte below = unwrap_or (marked_byte mark byte) below

-- bytes with zeros after them, up to a length
abbrev pub with_zeros : ℕ → List ℕ → List ℕ
with_zeros size bytes = bytes ++ replicate (size - length bytes) 0
