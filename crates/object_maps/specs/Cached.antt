-- What a read of a block says, and what it may take from memory.
use Rattle.std.specs.Prelude.{ℕ, ◌≡◌, ◌<◌, ◌≤◌, ◌+◌, ◌*◌, ◌⊎◌, List, Contains, Some, get_or, length}
use Rattle.std.specs.Ordering.{nat_cmp}
use Rattle.std.specs.FinMap as finite
use Rattle.std.specs.FinMap.{FinMap}
use Rattle.base.specs.declared.error.PoolError.{PoolError}
use Rattle.base.specs.declared.error.PoolError.TheVariants.{Read, Damaged}
use Rattle.base.specs.declared.pointer.Pointer.{Pointer}
use Rattle.base.specs.formats.Blocks.{Frame, Opens}
use Rattle.base.specs.formats.Fields.{no_pointer, part}
use Rattle.base.specs.formats.Geometry.{IsBlockAddress}
use Rattle.base.specs.formats.Limits.{one_level_length, pointer_count, record_size}
use Rattle.base.specs.tree.Places.{Place, object_of_indirect, record_number}
use Rattle.base.specs.tree.Places.Place.{Top, Indirect}
use Rattle.base.specs.kept.PlacedTrees.{HoldsTree}

-- what is left was there
abbrev pub OnlyLeft : List (ℕ × List ℕ) → List (ℕ × List ℕ) → Type 0
OnlyLeft old new = (address : ℕ) (payload : List ℕ) → Contains new (address, payload) → Contains old (address, payload)

-- no entry is of the block at this address
abbrev pub HasNoneAt : ℕ → List (ℕ × List ℕ) → Type 0
HasNoneAt at entries = (payload : List ℕ) → Contains entries (at, payload) → ⊥

-- why a read of a block is refused: the device refused it, or what it gave is damaged
abbrev pub IsDamage : PoolError → Type 0
IsDamage e = (kind : ℕ) × (address : ℕ) × (e ≡ Damaged kind address)

abbrev pub IsReadRefusal : PoolError → Type 0
IsReadRefusal e = (e ≡ Read) ⊎ IsDamage e

-- and why that of the block of a kind at an address is
abbrev pub IsBlockRefusal : ℕ → ℕ → PoolError → Type 0
IsBlockRefusal kind address e = (e ≡ Read) ⊎ (e ≡ Damaged kind address)

-- the image holds a tree in which the object of strip m has these bytes, and the strip's indirect block this pointer
pub record HoldsStrip (image : List ℕ) (frame : Frame) (m : ℕ) (indirect : Pointer) (pointers : Place → Pointer) (bytes : List ℕ) : Type 0 where
  pub objects : FinMap nat_cmp (List ℕ)
  pub tree : HoldsTree image frame pointers objects
  pub object : finite.get objects (object_of_indirect m) ≡ Some bytes
  pub indirect_is : pointers (Indirect m) ≡ indirect

-- the image holds a tree in which object n has these bytes, two levels, and this pointer to its top
pub record HoldsTop (image : List ℕ) (frame : Frame) (n : ℕ) (top : Pointer) (pointers : Place → Pointer) (bytes : List ℕ) : Type 0 where
  pub objects : FinMap nat_cmp (List ℕ)
  pub tree : HoldsTree image frame pointers objects
  pub object : finite.get objects n ≡ Some bytes
  pub long : one_level_length < length bytes
  pub top_is : pointers (Top n) ≡ top

-- a pointer to what begins at an offset of an object, if there is one, stands in an object that reaches so far
abbrev pub BeginsInside : ℕ → ℕ → Pointer → Type 0
BeginsInside size start pointer = (pointer ≡ no_pointer) ⊎ (start < size)

-- such a pointer in an object of this length: none, or one to a block of the area, where it begins before the end
abbrev pub IsPointerInside : ℕ → ℕ → ℕ → Pointer → Type 0
IsPointerInside blocks size start pointer = (pointer ≡ no_pointer) ⊎ ((start < size) × IsBlockAddress blocks pointer.address)

-- a payload that a read of a block may give: one in memory under the block's address, or that of the block of this kind
-- and number that the pointer names
abbrev pub IsReadPayload : List (ℕ × List ℕ) → List ℕ → Frame → ℕ → ℕ → Pointer → List ℕ → Type 0
IsReadPayload cached image frame kind number pointer payload = Contains cached (pointer.address, payload) ⊎ Opens image frame kind number pointer payload

-- record r of an object of this length has zeros past the object's end
abbrev pub EndsWithObject : ℕ → ℕ → List ℕ → Type 0
EndsWithObject size r record_payload = (i : ℕ) → size ≤ record_size * r + i → get_or record_payload i 0 ≡ 0

-- and bytes that it may give from an offset on of the payload of the k-th record of strip m, whose object has this
-- length
abbrev pub IsReadPart : List (ℕ × List ℕ) → List ℕ → Frame → ℕ → ℕ → ℕ → Pointer → ℕ → List ℕ → Type 0
IsReadPart cached image frame m k size pointer start bytes =
    (payload : List ℕ) × IsReadPayload cached image frame 5 (pointer_count * m + k) pointer payload × EndsWithObject size (record_number m k) payload
    × (bytes ≡ part payload start (length bytes))
