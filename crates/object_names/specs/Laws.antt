-- What holds of tables of names that are written.
use Rattle.std.specs.Prelude.{ℕ, ◌*◌, ◌<◌, ◌≡◌, ◌≢◌, ◌⊎◌, List, [], ◌∷◌}
use Rattle.base.specs.formats.Limits.{object_count}
use Rattle.base.specs.history.Contents.{bytes_after_write}
use Rattle.object_names.specs.NameTables.{IsNameTable, IsNamed, name_at}
use Rattle.object_names.specs.Names.{IsName}
use Rattle.object_names.specs.Slots.{header_bytes, slot_bytes, slot_size}

-- object 0 with its header, which the first named object writes
abbrev pub headed : List ℕ → List ℕ
headed [] = bytes_after_write 0 header_bytes []
headed (byte ∷ bytes) = byte ∷ bytes

-- object 0 after a name, or no bytes for none, is written into the slot of this number
abbrev pub with_slot : ℕ → List ℕ → List ℕ → List ℕ
with_slot n name bytes = bytes_after_write (slot_size * n) (slot_bytes name) (headed bytes)

-- no other object has this name
abbrev pub IsUnused : List ℕ → ℕ → List ℕ → Type 0
IsUnused bytes n name = (m : ℕ) → IsNamed bytes m name → m ≡ n

-- a table in which one object has this name, or none, and the others have theirs
pub record IsRenamed (bytes : List ℕ) (n : ℕ) (name : List ℕ) (after : List ℕ) : Type 0 where
  pub table : IsNameTable after
  pub name_is : name_at after n ≡ name
  pub others : (m : ℕ) → 0 < m → m ≢ n → name_at after m ≡ name_at bytes m

-- a slot that is written changes the name of its object, and no other one
abbrev pub SlotsChangeOneName : Type 0
SlotsChangeOneName = (bytes : List ℕ) (n : ℕ) (name : List ℕ) → IsNameTable bytes → 0 < n → n < object_count
    → (name ≡ []) ⊎ IsName name → IsUnused bytes n name → IsRenamed bytes n name (with_slot n name bytes)
