-- The uberblock arrays of four labels, one after the other, and the active uberblock in them.
use Rattle.std.specs.Prelude.{ℕ, ◌≡◌, ◌≢◌, ◌≤◌, ◌<◌, ◌+◌, ◌-◌, ◌*◌, ◌/◌, ◌%◌, ◌⊎◌, Bool, true, false, List, length, Option, Some, None, nat_lt}
use Rattle.base.specs.formats.Fields.{part}
use Rattle.base.specs.formats.Geometry.{slot_count, slot_size, slot_place, slot_of}
use Rattle.base.specs.formats.Uberblocks.{Uberblock as Fields, IsUberblock}
use Rattle.uberblocks.specs.declared.uberblock.Uberblock.{Uberblock}
use Rattle.uberblocks.specs.Slots.{fields_of}

-- the bytes of a label's uberblock array
abbrev pub array_size : ℕ
array_size = 131072

-- the bytes of a ring: the arrays of labels 0 to 3
abbrev pub ring_size : ℕ
ring_size = 524288

-- an uberblock stands in a label's array, in the slot of its group
abbrev pub StandsInRing : List ℕ → ℕ → Fields → Type 0
StandsInRing ring label u = IsUberblock (part ring (array_size * label + slot_size * slot_of u.group) slot_size) u

-- of those that stand in a ring, the one of the highest group, and of the lowest label that has that group
pub record IsActiveInRing (ring : List ℕ) (u : Fields) : Type 0 where
  pub label : ℕ
  pub in_range : label < 4
  pub stands : StandsInRing ring label u
  pub highest : (k : ℕ) (other : Fields) → k < 4 → StandsInRing ring k other → other.group ≤ u.group
  pub lowest : (k : ℕ) (other : Fields) → k < label → StandsInRing ring k other → other.group ≢ u.group

-- no uberblock stands in any array
abbrev pub HasNoneInRing : List ℕ → Type 0
HasNoneInRing ring = (k : ℕ) (u : Fields) → k < 4 → StandsInRing ring k u → ⊥

-- the arrays of a ring are those of an image
abbrev pub IsRingOf : List ℕ → List ℕ → Type 0
IsRingOf ring image = (label : ℕ) → label < 4 → part ring (array_size * label) array_size ≡ part image (slot_place (length image) label 0) array_size

-- the positions of a ring: the slots of four labels
abbrev pub position_count : ℕ
position_count = 512

-- an uberblock stands in the slot at this position of a ring; in each label 128 slots follow one another
abbrev pub StandsAtPosition : List ℕ → ℕ → Fields → Type 0
StandsAtPosition ring position u = IsUberblock (part ring (slot_size * position) slot_size) u × (slot_of u.group ≡ position % slot_count)

-- the position that is looked at after so many others: the labels one after another, and in each the last slot first
abbrev pub position_of : ℕ → ℕ
position_of count = 128 * (count / 128) + (127 - count % 128)

-- whether a group is above that of the best so far, if there is one
abbrev pub is_above : ℕ → Option Uberblock → Bool
is_above group None = true
is_above group (Some best) = nat_lt best.group.0 group

-- what stands at a position and is above the best so far
pub record IsFoundAt (ring : List ℕ) (position : ℕ) (best result : Option Uberblock) : Type 0 where
  pub found : Uberblock
  pub is : result ≡ Some found
  pub stands : StandsAtPosition ring position (fields_of found)
  pub above : is_above found.group.0 best ≡ true

-- the best so far, if nothing that stands at a position is above it
pub record IsKeptAt (ring : List ℕ) (position : ℕ) (best result : Option Uberblock) : Type 0 where
  pub is : result ≡ best
  pub none : (u : Fields) → StandsAtPosition ring position u → is_above u.group best ≡ false

-- the better of the best so far and of what stands at a position
abbrev pub IsBetterAt : List ℕ → ℕ → Option Uberblock → Option Uberblock → Type 0
IsBetterAt ring position best result = IsFoundAt ring position best result ⊎ IsKeptAt ring position best result
