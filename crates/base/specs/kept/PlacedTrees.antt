-- A tree told by the pointer at each of its places, as a pool keeps it in memory.
use Rattle.std.specs.Prelude.{ℕ, ◌≡◌, ◌≤◌, ◌<◌, ◌+◌, ◌*◌, ◌-◌, ◌⊎◌, ◌++◌, List, replicate, length, Option, Some, None, IfSome}
use Rattle.std.specs.Ordering.{nat_cmp}
use Rattle.std.specs.FinMap as map
use Rattle.std.specs.FinMap.{FinMap}
use Rattle.base.specs.declared.pointer.Pointer.{Pointer}
use Rattle.base.specs.formats.Limits.{object_count, one_level_length, max_length, record_size, pointer_count, entry_count, entry_size}
use Rattle.base.specs.formats.Fields.{pointer_in, entry_in, entry_present, entry_length, entry_pointer, no_pointer}
use Rattle.base.specs.formats.Geometry.{IsBlockAddress}
use Rattle.base.specs.formats.Blocks.{Frame}
use Rattle.base.specs.tree.Places.{Place, IsPlace, object_of_indirect, strip_number, strip_start}
use Rattle.base.specs.tree.Places.Place.{Root, Directory, Top, Indirect, Data}
use Rattle.base.specs.tree.Tree.{OpensAt, IsRecord, record_bytes}

-- what the entry of an object of one level says: nothing, or its length and the pointer to its indirect block
abbrev pub IsOneLevelEntry : List ℕ → Pointer → Option (List ℕ) → Type 0
IsOneLevelEntry entry indirect None = (entry ≡ replicate entry_size 0) × (indirect ≡ no_pointer)
IsOneLevelEntry entry indirect (Some bytes) =
    (entry_present entry ≡ 1) × (entry_length entry ≡ length bytes) × (length bytes ≤ one_level_length) × (entry_pointer entry ≡ indirect)

-- what the entry of an object of two levels says: its length, which is above that of one level, and the pointer to its
-- top
abbrev pub IsTwoLevelEntry : List ℕ → Pointer → Option (List ℕ) → Type 0
IsTwoLevelEntry entry top None = ⊥
IsTwoLevelEntry entry top (Some bytes) =
    (entry_present entry ≡ 2) × (entry_length entry ≡ length bytes) × (one_level_length < length bytes) × (length bytes ≤ max_length) × (entry_pointer entry ≡ top)

-- what the entry of an object says by the version that the frame has: from the second one on there are two levels
abbrev pub IsEntryFor : Frame → List ℕ → Pointer → Pointer → Option (List ℕ) → Type 0
IsEntryFor frame entry top indirect object = IsOneLevelEntry entry indirect object ⊎ ((1 < frame.version) × IsTwoLevelEntry entry top object)

-- an object that is absent or has one level, and one that has two
abbrev pub IsShort : Option (List ℕ) → Type 0
IsShort object = IfSome object (λ bytes. length bytes ≤ one_level_length)

abbrev pub IsLong : Option (List ℕ) → Type 0
IsLong None = ⊥
IsLong (Some bytes) = one_level_length < length bytes

-- strip j of an object, with this pointer, needs no top: it has no block, or is the first of an object of one level
abbrev pub NeedsNoTop : Option (List ℕ) → ℕ → Pointer → Type 0
NeedsNoTop object j strip = (strip ≡ no_pointer) ⊎ ((j ≡ 0) × IsShort object)

-- a strip that begins at the end of its object or behind it has no block
abbrev pub HasNonePast : Option (List ℕ) → ℕ → Pointer → Type 0
HasNonePast object j strip = IfSome object (λ bytes. length bytes ≤ strip_start j → strip ≡ no_pointer)

-- the bytes of an object in its record r, with zeros after its end
abbrev pub padded_record : ℕ → List ℕ → List ℕ
padded_record r bytes = record_bytes r bytes ++ replicate (record_size - length (record_bytes r bytes)) 0

-- no block and none below, or a block whose payload has the pointers below
abbrev pub StandsAt : List ℕ → Frame → (Place → Pointer) → FinMap nat_cmp (List ℕ) → Place → Type 0
StandsAt image frame pointers objects Root =
    ((pointers Root ≡ no_pointer) × ((d : ℕ) → d < pointer_count → pointers (Directory d) ≡ no_pointer))
    ⊎ ((payload : List ℕ) × OpensAt image frame Root (pointers Root) payload × ((d : ℕ) → d < pointer_count → pointer_in payload d ≡ pointers (Directory d)))
StandsAt image frame pointers objects (Directory d) =
    ((pointers (Directory d) ≡ no_pointer) × ((k : ℕ) → k < entry_count
    → (map.get objects (entry_count * d + k) ≡ None) × (pointers (Indirect (entry_count * d + k)) ≡ no_pointer)))
    ⊎ ((payload : List ℕ) × OpensAt image frame (Directory d) (pointers (Directory d)) payload
    × ((k : ℕ) → k < entry_count
    → IsEntryFor frame (entry_in payload k) (pointers (Top (entry_count * d + k))) (pointers (Indirect (entry_count * d + k))) (map.get objects (entry_count * d + k))))
StandsAt image frame pointers objects (Top n) =
    ((pointers (Top n) ≡ no_pointer) × ((j : ℕ) → j < pointer_count → NeedsNoTop (map.get objects n) j (pointers (Indirect (strip_number n j)))))
    ⊎ (IsLong (map.get objects n) × (payload : List ℕ) × OpensAt image frame (Top n) (pointers (Top n)) payload
    × ((j : ℕ) → j < pointer_count
    → (pointer_in payload j ≡ pointers (Indirect (strip_number n j))) × HasNonePast (map.get objects n) j (pointers (Indirect (strip_number n j)))))
StandsAt image frame pointers objects (Indirect m) =
    ((pointers (Indirect m) ≡ no_pointer) × ((k : ℕ) → k < pointer_count → pointers (Data m k) ≡ no_pointer))
    ⊎ ((payload : List ℕ) × OpensAt image frame (Indirect m) (pointers (Indirect m)) payload × ((k : ℕ) → k < pointer_count → pointer_in payload k ≡ pointers (Data m k)))
StandsAt image frame pointers objects (Data m k) =
    IfSome (map.get objects (object_of_indirect m)) (λ bytes. IsRecord image frame m k (pointers (Data m k)) bytes)

-- the image holds a tree of these objects, with these pointers at its places
pub record HoldsTree (image : List ℕ) (frame : Frame) (pointers : Place → Pointer) (objects : FinMap nat_cmp (List ℕ)) : Type 0 where
  pub no_others : (n : ℕ) → object_count ≤ n → map.get objects n ≡ None
  pub each : (place : Place) → IsPlace place → StandsAt image frame pointers objects place

-- a pointer is none, or one to a block of the area
abbrev pub IsPlaced : ℕ → Pointer → Type 0
IsPlaced blocks pointer = (pointer ≡ no_pointer) ⊎ IsBlockAddress blocks pointer.address

-- the pointer at each place is
abbrev pub ArePlaced : ℕ → (Place → Pointer) → Type 0
ArePlaced blocks pointers = (place : Place) → IsPlace place → IsPlaced blocks (pointers place)
