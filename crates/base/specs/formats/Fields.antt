-- Little-endian fields of an image, a block or a slot.
use Rattle.std.specs.Prelude.{ℕ, ◌+◌, ◌*◌, List, ◌++◌, take, drop, replicate}
use Rattle.std.specs.Int.{from_le_bytes, to_le_bytes, w64}
use Rattle.base.specs.declared.pointer.Pointer.{Pointer}

-- so many bytes from a place on
abbrev pub part : List ℕ → ℕ → ℕ → List ℕ
part bytes at size = take size (drop at bytes)

-- the 8 bytes of a number
unfoldable pub number_bytes : ℕ → List ℕ
number_bytes n = to_le_bytes w64 n

-- the number of 8 bytes at a place
unfoldable pub number_at : List ℕ → ℕ → ℕ
number_at bytes at = from_le_bytes w64 (part bytes at 8)

-- the pointer of 48 bytes at a place: 8 of the address, 8 of the birth group, 32 of the check
abbrev pub pointer_at : List ℕ → ℕ → Pointer
pointer_at bytes at = record { address = number_at bytes at; birth = number_at bytes (at + 8); check = part bytes (at + 16) 32 }

-- the pointer to nothing, 48 zero bytes
abbrev pub no_pointer : Pointer
no_pointer = record { address = 0; birth = 0; check = replicate 32 0 }

-- the pointer of this number in the payload of a root, a top or an indirect block, and the entry of this number in a
-- directory's
abbrev pub pointer_in : List ℕ → ℕ → Pointer
pointer_in payload k = pointer_at payload (48 * k)

abbrev pub entry_in : List ℕ → ℕ → List ℕ
entry_in payload k = part payload (64 * k) 64

-- how many levels of indirect blocks the object of an entry has, where 0 says that it is absent; its length, and the
-- pointer to its top or to its one indirect block
abbrev pub entry_present : List ℕ → ℕ
entry_present entry = number_at entry 0

abbrev pub entry_length : List ℕ → ℕ
entry_length entry = number_at entry 8

abbrev pub entry_pointer : List ℕ → Pointer
entry_pointer entry = pointer_at entry 16

-- a pointer as it is written
abbrev pub pointer_bytes : Pointer → List ℕ
pointer_bytes p = number_bytes p.address ++ (number_bytes p.birth ++ p.check)
