-- An uberblock's fields, and the bytes of its slot.
use Rattle.std.specs.Prelude.{ℕ, ◌≡◌, ◌≤◌, ◌<◌, ◌^◌, true, List, ◌++◌, length, replicate}
use Rattle.sha2.specs.Sha256.{sha256}
use Rattle.base.specs.formats.Limits.{first_group, last_number}
use Rattle.base.specs.formats.Versions.{is_version_known, number_of_version}
use Rattle.base.specs.formats.Fields.{part, number_at, number_bytes, pointer_at, pointer_bytes}
use Rattle.base.specs.formats.Uberblocks.{Uberblock as Fields, IsUberblock}
use Rattle.uberblocks.specs.declared.uberblock.Uberblock.{Uberblock}

-- the fields that definitions of images speak of
abbrev pub fields_of : Uberblock → Fields
fields_of u =
    record { version = number_of_version u.version; group = u.group.0; guid = u.guid; moment = u.moment; root = u.root; import_number = u.import_number; log_address = u.log_address; log_number = u.log_number }

-- what stands in the places of the fields, whatever the bytes hold
unfoldable pub fields_at : List ℕ → Fields
fields_at bytes =
    record { version = number_at bytes 8; group = number_at bytes 16; guid = number_at bytes 24; moment = number_at bytes 32; root = pointer_at bytes 40; import_number = number_at bytes 88; log_address = number_at bytes 96; log_number = number_at bytes 104 }

-- a version that is known, and a group, an import number and a log number that a pool can have
pub record IsWithinLimits (u : Fields) : Type 0 where
  pub version_known : is_version_known u.version ≡ true
  pub no_lower_group : first_group ≤ u.group
  pub no_higher_group : u.group ≤ last_number
  pub no_higher_import : u.import_number ≤ last_number
  pub no_higher_log : u.log_number ≤ last_number

-- each field has room in its place
pub record FieldsFit (u : Fields) : Type 0 where
  pub version : u.version < 2 ^ 64
  pub group : u.group < 2 ^ 64
  pub guid : u.guid < 2 ^ 64
  pub moment : u.moment < 2 ^ 64
  pub address : u.root.address < 2 ^ 64
  pub birth : u.root.birth < 2 ^ 64
  pub check : length u.root.check ≡ 32
  pub import_number : u.import_number < 2 ^ 64
  pub log_address : u.log_address < 2 ^ 64
  pub log_number : u.log_number < 2 ^ 64

-- so many zeros
unfoldable pub zeros : ℕ → List ℕ
zeros n = replicate n 0

-- the bytes begin as an uberblock does
abbrev pub HasMagic : List ℕ → Type 0
HasMagic bytes = number_at bytes 0 ≡ 0x00bab10c

-- the bytes between the fields and the check are zeros
abbrev pub HasZeros : List ℕ → Type 0
HasZeros bytes = part bytes 112 880 ≡ zeros 880

-- the bytes are no uberblock of any fields
abbrev pub HoldsNoUberblock : List ℕ → Type 0
HoldsNoUberblock bytes = (u : Fields) → IsUberblock bytes u → ⊥

-- magic, version and the fields, 112 bytes
unfoldable pub field_bytes : Fields → List ℕ
field_bytes u =
    number_bytes 0x00bab10c ++ number_bytes u.version ++ number_bytes u.group ++ number_bytes u.guid ++ number_bytes u.moment
    ++ pointer_bytes u.root ++ number_bytes u.import_number ++ number_bytes u.log_address ++ number_bytes u.log_number

-- the bytes that the check covers: the fields, then zeros
abbrev pub checked_bytes : Fields → List ℕ
checked_bytes u = field_bytes u ++ zeros 880

-- the 1,024 bytes of an uberblock
abbrev pub slot_bytes : Fields → List ℕ
slot_bytes u = checked_bytes u ++ sha256 (checked_bytes u)
