-- Which objects a tree of blocks holds.
use Rattle.std.specs.Prelude.{ℕ, ◌≡◌, ◌≤◌, ◌<◌, ◌+◌, ◌*◌, ◌-◌, ◌⊎◌, ◌++◌, List, replicate, length, Option, Some, None}
use Rattle.std.specs.Ordering.{nat_cmp}
use Rattle.std.specs.FinMap as map
use Rattle.std.specs.FinMap.{FinMap}
use Rattle.base.specs.declared.pointer.Pointer.{Pointer}
use Rattle.base.specs.formats.Limits.{object_count, one_level_length, max_length, record_size, pointer_count, entry_count, entry_size}
use Rattle.base.specs.formats.Fields.{part, pointer_in, entry_in, entry_present, entry_length, entry_pointer, no_pointer}
use Rattle.base.specs.formats.Blocks.{Frame, Opens}
use Rattle.base.specs.tree.Places.{Place, kind_of, number_of_place, strip_number, record_number, record_start, strip_start}
use Rattle.base.specs.tree.Places.Place.{Root, Directory, Top, Indirect, Data}

-- the block at a place
abbrev pub OpensAt : List ℕ → Frame → Place → Pointer → List ℕ → Type 0
OpensAt image frame place pointer payload = Opens image frame (kind_of place) (number_of_place place) pointer payload

-- the bytes of an object that lie in its record r
abbrev pub record_bytes : ℕ → List ℕ → List ℕ
record_bytes r bytes = part bytes (record_size * r) record_size

-- the k-th record of strip m: a hole, which reads as zeros, or a data block, whose bytes past the length are zeros
abbrev pub IsRecord : List ℕ → Frame → ℕ → ℕ → Pointer → List ℕ → Type 0
IsRecord image frame m k pointer bytes = let own = record_bytes (record_number m k) bytes in
    ((pointer ≡ no_pointer) × (own ≡ replicate (length own) 0))
    ⊎ ((record_start m k < length bytes) × OpensAt image frame (Data m k) pointer (own ++ replicate (record_size - length own) 0))

-- the records of strip m: holes without an indirect block, or what the pointers of that block name
abbrev pub IsStrip : List ℕ → Frame → ℕ → Pointer → List ℕ → Type 0
IsStrip image frame m pointer bytes =
    ((pointer ≡ no_pointer) × ((k : ℕ) → k < pointer_count → IsRecord image frame m k no_pointer bytes))
    ⊎ ((payload : List ℕ) × OpensAt image frame (Indirect m) pointer payload
    × ((k : ℕ) → k < pointer_count → IsRecord image frame m k (pointer_in payload k) bytes))

-- the strips of object n, of two levels: holes without a top, or what the pointers of the top name, none from the end
-- of the object on
abbrev pub AreStrips : List ℕ → Frame → ℕ → Pointer → List ℕ → Type 0
AreStrips image frame n pointer bytes =
    ((pointer ≡ no_pointer) × ((j : ℕ) → j < pointer_count → IsStrip image frame (strip_number n j) no_pointer bytes))
    ⊎ ((payload : List ℕ) × OpensAt image frame (Top n) pointer payload
    × ((j : ℕ) → j < pointer_count
    → IsStrip image frame (strip_number n j) (pointer_in payload j) bytes × (length bytes ≤ strip_start j → pointer_in payload j ≡ no_pointer)))

-- an entry says of object n, which has these bytes, that it has one level, or two
abbrev pub IsOneLevelObject : List ℕ → Frame → ℕ → List ℕ → List ℕ → Type 0
IsOneLevelObject image frame n entry bytes = (entry_present entry ≡ 1) × (length bytes ≤ one_level_length) × IsStrip image frame n (entry_pointer entry) bytes

abbrev pub IsTwoLevelObject : List ℕ → Frame → ℕ → List ℕ → List ℕ → Type 0
IsTwoLevelObject image frame n entry bytes =
    (entry_present entry ≡ 2) × (one_level_length < length bytes) × (length bytes ≤ max_length) × AreStrips image frame n (entry_pointer entry) bytes

-- an entry of a directory: object n is absent, or has these bytes, from the second version on also in two levels
abbrev pub IsEntry : List ℕ → Frame → ℕ → List ℕ → Option (List ℕ) → Type 0
IsEntry image frame n entry None = entry ≡ replicate entry_size 0
IsEntry image frame n entry (Some bytes) =
    (entry_length entry ≡ length bytes) × (IsOneLevelObject image frame n entry bytes ⊎ ((1 < frame.version) × IsTwoLevelObject image frame n entry bytes))

-- the objects of directory d: none, or those of its entries
abbrev pub IsDirectory : List ℕ → Frame → ℕ → Pointer → FinMap nat_cmp (List ℕ) → Type 0
IsDirectory image frame d pointer objects =
    ((pointer ≡ no_pointer) × ((k : ℕ) → k < entry_count → map.get objects (entry_count * d + k) ≡ None))
    ⊎ ((payload : List ℕ) × OpensAt image frame (Directory d) pointer payload
    × ((k : ℕ) → k < entry_count → IsEntry image frame (entry_count * d + k) (entry_in payload k) (map.get objects (entry_count * d + k))))

-- the objects of the tree under a root pointer
pub record IsTree (image : List ℕ) (frame : Frame) (root : Pointer) (objects : FinMap nat_cmp (List ℕ)) : Type 0 where
  pub no_others : (n : ℕ) → object_count ≤ n → map.get objects n ≡ None
  pub directories : ((root ≡ no_pointer) × ((n : ℕ) → map.get objects n ≡ None))
      ⊎ ((payload : List ℕ) × OpensAt image frame Root root payload
      × ((d : ℕ) → d < pointer_count → IsDirectory image frame d (pointer_in payload d) objects))
