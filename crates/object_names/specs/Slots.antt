-- A slot of a table of names: the name of an object, or none, in 256 bytes.
use Rattle.std.specs.Prelude.{ℕ, ◌-◌, ◌≡◌, ◌⊎◌, List, [], ◌∷◌, ◌++◌, codes, drop, length, replicate, slice_index, take}
use Rattle.object_names.specs.Names.{IsName, max_name}

-- the bytes of a slot
abbrev pub slot_size : ℕ
slot_size = 256

-- the slot that has a name: its length in 16 bits, low byte first, its bytes, and zeros. The length is below 256, so
-- the high byte is 0. The slot without a name is all zeros
unfoldable pub slot_bytes : List ℕ → List ℕ
slot_bytes name = (length name ∷ 0 ∷ []) ++ (name ++ replicate (max_name - length name) 0)

-- the name that a slot has, and no bytes if it has none
unfoldable pub name_in : List ℕ → List ℕ
name_in slot = take (slice_index slot 0) (drop 2 slot)

-- a slot is spelled in one way
pub record IsSlot (slot : List ℕ) : Type 0 where
  pub spelled : slot ≡ slot_bytes (name_in slot)
  pub name : (name_in slot ≡ []) ⊎ IsName (name_in slot)

-- the first slot
unfoldable pub header_bytes : List ℕ
header_bytes = codes "topzerad names 1" ++ replicate 240 0
