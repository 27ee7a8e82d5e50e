-- The bytes that a group wrote into an object, by records.
use Rattle.std.specs.Prelude.{cond, not, true, ℕ, ◌==◌, ◌||◌, nat_eq, nat_lt, ◌≡◌, ◌<◌, ◌+◌, ◌*◌, ◌/◌, List, [], get_or, is_some, length, IsSome, Option, option_map, unwrap_or}
use Rattle.std.specs.List.{list_any}
use Rattle.std.specs.Map.{keys_of}
use Rattle.base.specs.formats.Limits.{record_size}
use Rattle.extents.specs.declared.object.ObjectPatch.{ObjectPatch}
use Rattle.extents.specs.Records.{patch_with, record_at, written_by}
use Rattle.extents.specs.Patches.{Patch, is_shown, patched, written_after, written_below}
use Rattle.tree_blocks.specs.Sources.{AreBytesFrom}

-- the byte that was written at an offset of an object
abbrev pub written_in : ObjectPatch → ℕ → Option ℕ
written_in o = written_by o.records.entries

-- a record has the room for its bytes
abbrev pub HasRoomAt : ObjectPatch → ℕ → Type 0
HasRoomAt o index = IsSome (record_at o.records.entries index)

-- the records of so many bytes from an offset on have room
abbrev pub HasRoomFrom : ObjectPatch → ℕ → ℕ → Type 0
HasRoomFrom o offset count = (index : ℕ) → offset < record_size * (index + 1) → record_size * index < offset + count → HasRoomAt o index

-- a record that had room has it
abbrev pub KeepsRoom : ObjectPatch → ObjectPatch → Type 0
KeepsRoom old new = (index : ℕ) → HasRoomAt old index → HasRoomAt new index

-- what is written at an offset once a write has come to one record, and to all records before this one
abbrev pub written_at_record : ℕ → ℕ → List ℕ → (ℕ → Option ℕ) → ℕ → Option ℕ
written_at_record index offset bytes written i = cond (i / record_size == index) (written_after offset bytes written i) (written i)

abbrev pub written_before_record : ℕ → ℕ → List ℕ → (ℕ → Option ℕ) → ℕ → Option ℕ
written_before_record index offset bytes written i = cond (nat_lt (i / record_size) index) (written_after offset bytes written i) (written i)

-- what is left once the bytes from an offset on are forgotten in one record, and in these records
abbrev pub left_at_record : ℕ → ℕ → (ℕ → Option ℕ) → ℕ → Option ℕ
left_at_record index offset written i = cond (i / record_size == index) (written_below offset written i) (written i)

abbrev pub left_in_records : List ℕ → ℕ → (ℕ → Option ℕ) → ℕ → Option ℕ
left_in_records numbers offset written i = cond (list_any (nat_eq (i / record_size)) numbers) (written_below offset written i) (written i)

-- the numbers of the records that an object has
abbrev pub numbers_of : ObjectPatch → List ℕ
numbers_of o = keys_of o.records.entries

-- what the group made of the object
abbrev pub patch_of : ObjectPatch → Patch
patch_of o = patch_with o.basis o.records.entries

-- from bytes below to those of a patched object that is there: those that were written, and else those below as far as
-- they show
abbrev pub LaysOn : Patch → ℕ → List ℕ → List ℕ → Type 0
LaysOn p offset old new = (k : ℕ) → k < length old
    → get_or new k 0 ≡ unwrap_or (p.written (offset + k)) (cond (is_shown p.basis (offset + k)) (get_or old k 0) 0)

-- of so many bytes from an offset on each was written, or does not show
abbrev pub HidesBelow : Patch → ℕ → ℕ → Type 0
HidesBelow p offset count = (k : ℕ) → k < count → (is_some (p.written (offset + k)) || not (is_shown p.basis (offset + k))) ≡ true

-- from bytes of the object below, which has this length, to those of the patched one, from the same offset on
abbrev pub LaysOver : Patch → ℕ → Option ℕ → List ℕ → List ℕ → Type 0
LaysOver p offset below old new = (object : Option (List ℕ)) → option_map length object ≡ below
    → AreBytesFrom offset (unwrap_or object []) old → AreBytesFrom offset (unwrap_or (patched p object) []) new
