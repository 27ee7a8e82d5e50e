-- What holds of the sizes of devices, and of slots, uberblocks and rings of pools with a map.
use Rattle.std.specs.Prelude.{ℕ, ◌≡◌, ◌≢◌, ◌≤◌, ◌<◌, ◌+◌, ◌↔◌, List}
use Rattle.base.specs.formats.Geometry.{IsGeometry}
use Rattle.uberblocks.specs.Rings.{IsRingOf}
use Rattle.mapped_labels.specs.Shapes.{IsMappedGeometry, mapped_slot_of}
use Rattle.mapped_labels.specs.MappedUberblocks.{MappedState, IsMappedUberblock, IsMappedActive, HasNoMappedUberblock}
use Rattle.mapped_labels.specs.MappedSlots.{MappedFit, AreWithinLimits, mapped_slot_bytes}
use Rattle.mapped_labels.specs.MappedRings.{IsActiveInRing, HasNoneInRing}
use Rattle.base.specs.formats.Versions.{written_version}

-- no size is both a plain pool's and that of a pool with a map
abbrev pub MappedIsNotPlain : Type 0
MappedIsNotPlain = (size : ℕ) → IsMappedGeometry size → IsGeometry size → ⊥

-- bytes are an uberblock of one list of fields at most
abbrev pub ReadingsAgree : Type 0
ReadingsAgree = (bytes : List ℕ) (u v : MappedState) → IsMappedUberblock bytes u → IsMappedUberblock bytes v → u ≡ v

-- what is written of fields within their limits is an uberblock of these fields
abbrev pub SlotsReadBack : Type 0
SlotsReadBack = (u : MappedState) → MappedFit u → u.state.version ≡ written_version → AreWithinLimits u.state → IsMappedUberblock (mapped_slot_bytes u) u

-- an image, and a ring, has one active uberblock at most
abbrev pub ActivesAgree : Type 0
ActivesAgree = (image : List ℕ) (u v : MappedState) → IsMappedActive image u → IsMappedActive image v → u ≡ v

abbrev pub RingActivesAgree : Type 0
RingActivesAgree = (ring : List ℕ) (u v : MappedState) → IsActiveInRing ring u → IsActiveInRing ring v → u ≡ v

-- the next 31 groups have other slots
abbrev pub SlotsDiffer : Type 0
SlotsDiffer = (group later : ℕ) → group < later → later ≤ group + 31 → mapped_slot_of later ≢ mapped_slot_of group

-- what is active in the arrays of an image is active in the image
abbrev pub RingsShowActives : Type 0
RingsShowActives = (ring image : List ℕ) (u : MappedState) → IsRingOf ring image → IsActiveInRing ring u ↔ IsMappedActive image u

-- if none stands in the arrays of an image, none stands in the image
abbrev pub RingsShowNone : Type 0
RingsShowNone = (ring image : List ℕ) → IsRingOf ring image → HasNoneInRing ring ↔ HasNoMappedUberblock image
