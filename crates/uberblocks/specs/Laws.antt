-- What holds of slots, uberblocks and rings.
use Rattle.std.specs.Prelude.{ℕ, ◌≡◌, ◌≢◌, ◌≤◌, ◌<◌, ◌+◌, ◌↔◌, List, slice_index}
use Rattle.base.specs.formats.Geometry.{slot_of}
use Rattle.base.specs.formats.Uberblocks.{Uberblock as Fields, IsUberblock, IsActive, HasNoUberblock}
use Rattle.uberblocks.specs.Slots.{FieldsFit, IsWithinLimits, slot_bytes}
use Rattle.uberblocks.specs.Rings.{IsActiveInRing, HasNoneInRing, IsRingOf}

-- bytes are an uberblock of one list of fields at most
abbrev pub ReadingsAgree : Type 0
ReadingsAgree = (bytes : List ℕ) (u v : Fields) → IsUberblock bytes u → IsUberblock bytes v → u ≡ v

-- what is written of fields within their limits is an uberblock of these fields
abbrev pub SlotsReadBack : Type 0
SlotsReadBack = (u : Fields) → FieldsFit u → IsWithinLimits u → IsUberblock (slot_bytes u) u

-- and bytes that are an uberblock are those that are written of it
abbrev pub SlotsSpelledOnce : Type 0
SlotsSpelledOnce = (bytes : List ℕ) (u : Fields) → ((i : ℕ) → slice_index bytes i < 256) → IsUberblock bytes u → bytes ≡ slot_bytes u

-- an image, and a ring, has one active uberblock at most
abbrev pub ActivesAgree : Type 0
ActivesAgree = (image : List ℕ) (u v : Fields) → IsActive image u → IsActive image v → u ≡ v

abbrev pub RingActivesAgree : Type 0
RingActivesAgree = (ring : List ℕ) (u v : Fields) → IsActiveInRing ring u → IsActiveInRing ring v → u ≡ v

-- the next 127 groups have other slots
abbrev pub SlotsDiffer : Type 0
SlotsDiffer = (group later : ℕ) → group < later → later ≤ group + 127 → slot_of later ≢ slot_of group

-- what is active in the arrays of an image is active in the image
abbrev pub RingsShowActives : Type 0
RingsShowActives = (ring image : List ℕ) (u : Fields) → IsRingOf ring image → IsActiveInRing ring u ↔ IsActive image u

-- if none stands in the arrays of an image, none stands in the image
abbrev pub RingsShowNone : Type 0
RingsShowNone = (ring image : List ℕ) → IsRingOf ring image → HasNoneInRing ring ↔ HasNoUberblock image
