-- Entries of a map of free blocks: what a node says of each node below it, and what an uberblock says of the highest
-- node.
use Rattle.std.specs.Prelude.{ℕ, ◌≡◌, ◌<◌, ◌+◌, ◌^◌, ◌++◌, List, length}
use Rattle.mapped_labels.specs.declared.map_entry.MapEntry.{MapEntry}
use Rattle.base.specs.formats.Fields.{number_at, number_bytes, pointer_at, pointer_bytes, no_pointer}

-- the entry of 56 bytes at a place: a pointer of 48, and 8 of a count
abbrev pub map_entry_at : List ℕ → ℕ → MapEntry
map_entry_at bytes at = record { pointer = pointer_at bytes at; count = number_at bytes (at + 48) }

-- an entry as it is written
abbrev pub map_entry_bytes : MapEntry → List ℕ
map_entry_bytes e = pointer_bytes e.pointer ++ number_bytes e.count

-- the entry of no node, 56 zero bytes
abbrev pub no_entry : MapEntry
no_entry = record { pointer = no_pointer; count = 0 }

-- each field of an entry has room in its place
pub record EntryFits (e : MapEntry) : Type 0 where
  pub address : e.pointer.address < 2 ^ 64
  pub birth : e.pointer.birth < 2 ^ 64
  pub check : length e.pointer.check ≡ 32
  pub count : e.count < 2 ^ 64
