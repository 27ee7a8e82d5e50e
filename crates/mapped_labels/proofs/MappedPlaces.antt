-- Positions of a ring with slots of 4,096 bytes.
use Rattle.std.proofs.Common.{ℕ, ◌≡◌, ◌+◌, ◌-◌, ◌*◌, ◌/◌, ◌<◌, List, sym, ap, ◌∙◌, subst, arith}
use Rattle.std.proofs.lemmas.Nat.{mod-mul-add, div-add-mod'}
use Rattle.base.specs.formats.Fields.{part, number_at}
use Rattle.mapped_labels.specs.Shapes.{mapped_slot_of}
use Rattle.mapped_labels.specs.MappedUberblocks.{MappedState, IsMappedUberblock}
use Rattle.mapped_labels.specs.MappedRings.{StandsAtPosition, StandsInRing, position_of}

-- a group's slot is one of the 32 of an array
pub slot-below : (group : ℕ) → mapped_slot_of group < 32
slot-below group = omega arith

-- what stands at a position stands in the ring, and the other way round
pub StandsInRing-at : (ring : List ℕ) (position : ℕ) (u : MappedState) → StandsAtPosition ring position u → StandsInRing ring (position / 32) u
StandsInRing-at ring position u at =
    let split = div-add-mod' position 32 in
    let place : 4096 * position ≡ 131072 * (position / 32) + 4096 * mapped_slot_of u.state.group = omega (arith, split, at.1) in
    subst (λ (k : ℕ). IsMappedUberblock (part ring k 4096) u) place at.0

StandsAtPosition-in_ring : (ring : List ℕ) (label : ℕ) (u : MappedState) → StandsInRing ring label u → StandsAtPosition ring (label * 32 + mapped_slot_of u.state.group) u
StandsAtPosition-in_ring ring label u stands =
    let place : 131072 * label + 4096 * mapped_slot_of u.state.group ≡ 4096 * (label * 32 + mapped_slot_of u.state.group) = omega arith in
    (subst (λ (k : ℕ). IsMappedUberblock (part ring k 4096) u) place stands, sym (mod-mul-add label 32 (mapped_slot_of u.state.group) (slot-below u.state.group)))

-- how many positions are looked at before a slot of a label, and the label of a position
abbrev pub count_of : ℕ → ℕ → ℕ
count_of label slot = 32 * label + (31 - slot)

position_of-count_of : (label slot : ℕ) → slot < 32 → position_of (count_of label slot) ≡ label * 32 + slot
position_of-count_of label slot low = omega (arith, low)

pub label-position_of : (count : ℕ) → position_of count / 32 ≡ count / 32
label-position_of count = omega arith

pub StandsAtPosition-count : (ring : List ℕ) (label : ℕ) (u : MappedState) → StandsInRing ring label u → StandsAtPosition ring (position_of (count_of label (mapped_slot_of u.state.group))) u
StandsAtPosition-count ring label u stands =
    subst (λ (k : ℕ). StandsAtPosition ring k u) (sym (position_of-count_of label (mapped_slot_of u.state.group) (slot-below u.state.group))) (StandsAtPosition-in_ring ring label u stands)

-- the group of what stands at a position is the number in its place
pub group-at : (ring : List ℕ) (position size group : ℕ) (u : MappedState) → size ≡ 4096 → group ≡ number_at (part ring (4096 * position) size) 16 → StandsAtPosition ring position u → group ≡ u.state.group
group-at ring position size group u whole is at =
    is ∙ ap (λ (n : ℕ). number_at (part ring (4096 * position) n) 16) whole ∙ at.0.group
