-- The damages of a tree, and the first of them in the order of its walk.
use Rattle.std.specs.Prelude.{ℕ, ◌≡◌, ◌≢◌, ◌≤◌, ◌<◌, ◌-◌, ◌/◌, ◌%◌, ◌⊎◌, List, drop, replicate}
use Rattle.base.specs.declared.pointer.Pointer.{Pointer}
use Rattle.base.specs.formats.Limits.{one_level_length, max_length, record_size, pointer_count, entry_count, entry_size}
use Rattle.base.specs.formats.Fields.{pointer_in, entry_in, entry_present, entry_length, entry_pointer, no_pointer}
use Rattle.base.specs.formats.Blocks.{Frame, Opens, payload_at}
use Rattle.base.specs.tree.Places.{Place, IsPlace, kind_of, number_of_place, walk_index_of, pointer_of, directory_pointer, object_of_indirect, record_start, strip_start}
use Rattle.base.specs.tree.Places.Place.{Root, Directory, Top, Indirect, Data}

-- a pointer has an address, or is 48 zero bytes
abbrev pub IsPointerForm : Pointer → Type 0
IsPointerForm pointer = (pointer ≡ no_pointer) ⊎ (pointer.address ≢ 0)

-- an entry of one level of indirect blocks is absent and all zeros, or present with a length and a pointer
abbrev pub IsOneLevelForm : List ℕ → Type 0
IsOneLevelForm entry = (entry ≡ replicate entry_size 0)
    ⊎ ((entry_present entry ≡ 1) × (entry_length entry ≤ one_level_length) × IsPointerForm (entry_pointer entry))

-- an entry of two levels says so, and has a length above that of one level, and a pointer
abbrev pub IsTwoLevelForm : List ℕ → Type 0
IsTwoLevelForm entry = (entry_present entry ≡ 2) × (one_level_length < entry_length entry) × (entry_length entry ≤ max_length) × IsPointerForm (entry_pointer entry)

-- the form of an entry by the version that the frame has: from the second one on there are two levels
abbrev pub IsEntryForm : Frame → List ℕ → Type 0
IsEntryForm frame entry = IsOneLevelForm entry ⊎ ((1 < frame.version) × IsTwoLevelForm entry)

-- the length that the directory's entry of object n gives
abbrev pub length_in : List ℕ → Pointer → ℕ → ℕ
length_in image root n = entry_length (entry_in (payload_at image (directory_pointer image root (n / entry_count)).address) (n % entry_count))

-- a pointer to what begins at an offset of an object of this length: none from the end of the object on
abbrev pub IsRecordPointerForm : ℕ → ℕ → Pointer → Type 0
IsRecordPointerForm length start pointer = (start < length → IsPointerForm pointer) × (length ≤ start → pointer ≡ no_pointer)

-- what the block at a place holds is well formed, whatever lies below it
abbrev pub IsWellFormed : List ℕ → Frame → Pointer → Place → List ℕ → Type 0
IsWellFormed image frame root Root payload = (d : ℕ) → d < pointer_count → IsPointerForm (pointer_in payload d)
IsWellFormed image frame root (Directory d) payload = (k : ℕ) → k < entry_count → IsEntryForm frame (entry_in payload k)
IsWellFormed image frame root (Top n) payload =
    (j : ℕ) → j < pointer_count → IsRecordPointerForm (length_in image root n) (strip_start j) (pointer_in payload j)
IsWellFormed image frame root (Indirect m) payload =
    (k : ℕ) → k < pointer_count → IsRecordPointerForm (length_in image root (object_of_indirect m)) (record_start m k) (pointer_in payload k)
IsWellFormed image frame root (Data m k) payload =
    let past = length_in image root (object_of_indirect m) - record_start m k in drop past payload ≡ replicate (record_size - past) 0

-- nothing stands at a place, or a block that opens there and is well formed
abbrev pub IsSoundAt : List ℕ → Frame → Pointer → Place → Type 0
IsSoundAt image frame root place = (pointer_of image root place ≡ no_pointer)
    ⊎ ((payload : List ℕ) × Opens image frame (kind_of place) (number_of_place place) (pointer_of image root place) payload × IsWellFormed image frame root place payload)

-- the first damage in the order of the walk, by the kind of its place and the address of the pointer there
pub record IsFirstDamage (image : List ℕ) (frame : Frame) (root : Pointer) (kind address : ℕ) : Type 0 where
  pub place : Place
  pub in_range : IsPlace place
  pub kind_is : kind_of place ≡ kind
  pub address_is : (pointer_of image root place).address ≡ address
  pub damaged : IsSoundAt image frame root place → ⊥
  pub sound_before : (other : Place) → IsPlace other → walk_index_of other < walk_index_of place → IsSoundAt image frame root other
