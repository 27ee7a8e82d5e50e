-- The fields of a mapped pool's uberblock, and the bytes of its slot.
use Rattle.std.specs.Prelude.{ℕ, ◌≡◌, ◌≤◌, List, ◌++◌}
use Rattle.sha2.specs.Sha256.{sha256}
use Rattle.base.specs.formats.Limits.{first_group, last_number}
use Rattle.base.specs.formats.Fields.{part, number_at, pointer_at}
use Rattle.base.specs.formats.Uberblocks.{Uberblock as Fields}
use Rattle.base.specs.formats.Versions.{written_version}
use Rattle.uberblocks.specs.Slots as plain
use Rattle.uberblocks.specs.Slots.{field_bytes, zeros, FieldsFit}
use Rattle.mapped_labels.specs.declared.uberblock.MappedUberblock.{MappedUberblock}
use Rattle.mapped_labels.specs.Entries.{map_entry_at, map_entry_bytes, EntryFits}
use Rattle.mapped_labels.specs.MappedUberblocks.{MappedState, IsMappedUberblock, mapped_version}

-- the fields that definitions of images speak of
abbrev pub fields_of : MappedUberblock → MappedState
fields_of u = record { state = plain.fields_of u.state; map = u.map }

-- what stands in the places of the fields, whatever the bytes hold
unfoldable pub fields_at : List ℕ → MappedState
fields_at bytes =
    record {
      state = record { version = written_version; group = number_at bytes 16; guid = number_at bytes 24; moment = number_at bytes 32; root = pointer_at bytes 40; import_number = number_at bytes 88; log_address = number_at bytes 96; log_number = number_at bytes 104 };
      map = map_entry_at bytes 112;
    }

-- the fields as they stand in the bytes, with the number of version 3
abbrev pub stored : Fields → Fields
stored u =
    record { version = mapped_version; group = u.group; guid = u.guid; moment = u.moment; root = u.root; import_number = u.import_number; log_address = u.log_address; log_number = u.log_number }

-- a group, an import number and a log number that a pool can have
pub record AreWithinLimits (u : Fields) : Type 0 where
  pub no_lower_group : first_group ≤ u.group
  pub no_higher_group : u.group ≤ last_number
  pub no_higher_import : u.import_number ≤ last_number
  pub no_higher_log : u.log_number ≤ last_number

-- each field has room in its place
pub record MappedFit (u : MappedState) : Type 0 where
  pub state : FieldsFit (stored u.state)
  pub map : EntryFits u.map

-- the bytes begin as an uberblock of version 3 does
abbrev pub HasMappedHead : List ℕ → Type 0
HasMappedHead bytes = (number_at bytes 0 ≡ 0x00bab10c) × (number_at bytes 8 ≡ mapped_version)

-- the bytes between the map's entry and the check are zeros
abbrev pub HasMappedZeros : List ℕ → Type 0
HasMappedZeros bytes = part bytes 168 3896 ≡ zeros 3896

-- the bytes are no uberblock of any fields
abbrev pub HoldsNoMapped : List ℕ → Type 0
HoldsNoMapped bytes = (u : MappedState) → IsMappedUberblock bytes u → ⊥

-- magic, version, the fields and the entry of the map, 168 bytes
abbrev pub mapped_field_bytes : MappedState → List ℕ
mapped_field_bytes u = field_bytes (stored u.state) ++ map_entry_bytes u.map

-- the bytes that the check covers: the fields, then zeros
abbrev pub mapped_checked_bytes : MappedState → List ℕ
mapped_checked_bytes u = mapped_field_bytes u ++ zeros 3896

-- the 4,096 bytes of an uberblock
abbrev pub mapped_slot_bytes : MappedState → List ℕ
mapped_slot_bytes u = mapped_checked_bytes u ++ sha256 (mapped_checked_bytes u)
