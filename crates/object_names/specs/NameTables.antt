-- A table of names: the bytes of object 0, which give names to the other objects.
use Rattle.std.specs.Prelude.{ℕ, ◌*◌, ◌%◌, ◌<◌, ◌≤◌, ◌≡◌, ◌≢◌, ◌⊎◌, ◌==◌, Bool, false, List, [], length}
use Rattle.std.specs.List.{list_any}
use Rattle.base.specs.declared.names.ObjectId.{ObjectId}
use Rattle.base.specs.formats.Fields.{part}
use Rattle.base.specs.formats.Limits.{object_count}
use Rattle.object_names.specs.Slots.{IsSlot, header_bytes, name_in, slot_size}

-- the slot of this number, which has no bytes past the end; and the name in it
abbrev pub slot_at : List ℕ → ℕ → List ℕ
slot_at bytes n = part bytes (slot_size * n) slot_size

abbrev pub name_at : List ℕ → ℕ → List ℕ
name_at bytes n = name_in (slot_at bytes n)

-- the slot of this number is there
abbrev pub IsThere : List ℕ → ℕ → Type 0
IsThere bytes n = slot_size * n < length bytes

-- whole slots, of the header and of each object at most
abbrev pub IsWhole : List ℕ → Type 0
IsWhole bytes = (length bytes % slot_size ≡ 0) × (length bytes ≤ slot_size * object_count)

abbrev pub HasHeader : List ℕ → Type 0
HasHeader bytes = (bytes ≡ []) ⊎ (slot_at bytes 0 ≡ header_bytes)

abbrev pub AreSlots : List ℕ → Type 0
AreSlots bytes = (n : ℕ) → 0 < n → IsThere bytes n → IsSlot (slot_at bytes n)

-- no two objects have one name
abbrev pub AreDistinct : List ℕ → Type 0
AreDistinct bytes = (m n : ℕ) → 0 < m → m < n → IsThere bytes n → name_at bytes m ≡ name_at bytes n → name_at bytes n ≡ []

-- nothing, or a header with the slots of objects behind it
pub record IsNameTable (bytes : List ℕ) : Type 0 where
  pub whole : IsWhole bytes
  pub header : HasHeader bytes
  pub slots : AreSlots bytes
  pub distinct : AreDistinct bytes

-- the object has this name
pub record IsNamed (bytes : List ℕ) (n : ℕ) (name : List ℕ) : Type 0 where
  pub number : 0 < n
  pub few : n < object_count
  pub name_is : name_at bytes n ≡ name
  pub some : name ≢ []

-- one of these objects has this number
abbrev pub has_object : List (ObjectId × ℕ) → ℕ → Bool
has_object objects n = list_any (λ o. o.0.0 == n) objects

-- an object of this number can be made and named: it has no name, and it isn't one of these objects
pub record IsFree (bytes : List ℕ) (objects : List (ObjectId × ℕ)) (n : ℕ) : Type 0 where
  pub number : 0 < n
  pub few : n < object_count
  pub unnamed : name_at bytes n ≡ []
  pub absent : has_object objects n ≡ false
