-- The bytes that a group wrote into a record, and into the records of an object.
use Rattle.std.specs.Prelude.{ℕ, ◌/◌, ◌%◌, List, Option, None, nat_eq}
use Rattle.std.specs.Map.{lookup}
use Rattle.std.specs.Option.{option_map_or}
use Rattle.base.specs.formats.Limits.{record_size}
use Rattle.extents.specs.declared.basis.Basis.{Basis}
use Rattle.extents.specs.declared.record.RecordPatch.{RecordPatch}
use Rattle.extents.specs.Marks.{byte_in}
use Rattle.extents.specs.Patches.{Patch}

-- the bytes that a group wrote into a record
abbrev pub bytes_written : RecordPatch → ℕ → Option ℕ
bytes_written r = byte_in r.bytes.items r.mask.items

-- the record of a number
abbrev pub record_at : List (ℕ × RecordPatch) → ℕ → Option RecordPatch
record_at records index = lookup (nat_eq index) records

-- the byte that was written at an offset of an object
abbrev pub written_by : List (ℕ × RecordPatch) → ℕ → Option ℕ
written_by records i = option_map_or (λ r. bytes_written r (i % record_size)) (record_at records (i / record_size)) None

-- what the group made of an object with these records
abbrev pub patch_with : Basis → List (ℕ × RecordPatch) → Patch
patch_with basis records = record { basis = basis; written = written_by records }
