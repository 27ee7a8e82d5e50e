-- The uberblock arrays of four labels with slots of 4,096 bytes, one after the other, and the active uberblock in them.
use Rattle.std.specs.Prelude.{ℕ, ◌≡◌, ◌≢◌, ◌≤◌, ◌<◌, ◌+◌, ◌-◌, ◌*◌, ◌/◌, ◌%◌, ◌⊎◌, Bool, true, false, List, Option, Some, None, nat_lt}
use Rattle.base.specs.formats.Fields.{part}
use Rattle.uberblocks.specs.Rings.{array_size}
use Rattle.mapped_labels.specs.declared.uberblock.MappedUberblock.{MappedUberblock}
use Rattle.mapped_labels.specs.Shapes.{mapped_slot_count, mapped_slot_of, mapped_slot_size}
use Rattle.mapped_labels.specs.MappedUberblocks.{MappedState, IsMappedUberblock}
use Rattle.mapped_labels.specs.MappedSlots.{fields_of}

-- an uberblock stands in a label's array, in the slot of its group
abbrev pub StandsInRing : List ℕ → ℕ → MappedState → Type 0
StandsInRing ring label u = IsMappedUberblock (part ring (array_size * label + mapped_slot_size * mapped_slot_of u.state.group) mapped_slot_size) u

-- of those that stand in a ring, the one of the highest group, and of the lowest label that has that group
pub record IsActiveInRing (ring : List ℕ) (u : MappedState) : Type 0 where
  pub label : ℕ
  pub in_range : label < 4
  pub stands : StandsInRing ring label u
  pub highest : (k : ℕ) (other : MappedState) → k < 4 → StandsInRing ring k other → other.state.group ≤ u.state.group
  pub lowest : (k : ℕ) (other : MappedState) → k < label → StandsInRing ring k other → other.state.group ≢ u.state.group

-- no uberblock stands in any array
abbrev pub HasNoneInRing : List ℕ → Type 0
HasNoneInRing ring = (k : ℕ) (u : MappedState) → k < 4 → StandsInRing ring k u → ⊥

-- the positions of a ring: the slots of four labels
abbrev pub position_count : ℕ
position_count = 128

-- an uberblock stands in the slot at this position of a ring; in each label 32 slots follow one another
abbrev pub StandsAtPosition : List ℕ → ℕ → MappedState → Type 0
StandsAtPosition ring position u = IsMappedUberblock (part ring (mapped_slot_size * position) mapped_slot_size) u × (mapped_slot_of u.state.group ≡ position % mapped_slot_count)

-- the position that is looked at after so many others: the labels one after another, and in each the last slot first
abbrev pub position_of : ℕ → ℕ
position_of count = 32 * (count / 32) + (31 - count % 32)

-- whether a group is above that of the best so far, if there is one
abbrev pub is_above : ℕ → Option MappedUberblock → Bool
is_above group None = true
is_above group (Some best) = nat_lt best.state.group.0 group

-- what stands at a position and is above the best so far
pub record IsFoundAt (ring : List ℕ) (position : ℕ) (best result : Option MappedUberblock) : Type 0 where
  pub found : MappedUberblock
  pub is : result ≡ Some found
  pub stands : StandsAtPosition ring position (fields_of found)
  pub above : is_above found.state.group.0 best ≡ true

-- the best so far, if nothing that stands at a position is above it
pub record IsKeptAt (ring : List ℕ) (position : ℕ) (best result : Option MappedUberblock) : Type 0 where
  pub is : result ≡ best
  pub none : (u : MappedState) → StandsAtPosition ring position u → is_above u.state.group best ≡ false

-- the better of the best so far and of what stands at a position
abbrev pub IsBetterAt : List ℕ → ℕ → Option MappedUberblock → Option MappedUberblock → Type 0
IsBetterAt ring position best result = IsFoundAt ring position best result ⊎ IsKeptAt ring position best result
