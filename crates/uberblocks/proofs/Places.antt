-- Parts of parts, and positions of a ring.
use Rattle.std.proofs.Common.{ℕ, ◌≡◌, ◌+◌, ◌-◌, ◌*◌, ◌/◌, ◌<◌, List, sym, ap, ◌∙◌, subst, arith}
use Rattle.std.proofs.lemmas.Nat.{mod-mul-add, div-add-mod'}
use Rattle.base.specs.formats.Fields.{part, number_at}
use Rattle.base.specs.formats.Geometry.{slot_of}
use Rattle.base.specs.formats.Uberblocks.{Uberblock as Fields, IsUberblock}
use Rattle.base.proofs.formats.Geometry.{slot-below}
use Rattle.uberblocks.specs.Rings.{StandsAtPosition, StandsInRing, position_of}

-- what stands at a position stands in the ring, and the other way round
pub StandsInRing-at : (ring : List ℕ) (position : ℕ) (u : Fields) → StandsAtPosition ring position u → StandsInRing ring (position / 128) u
StandsInRing-at ring position u at =
    let split = div-add-mod' position 128 in
    let place : 1024 * position ≡ 131072 * (position / 128) + 1024 * slot_of u.group = omega (arith, split, at.1) in
    subst (λ (k : ℕ). IsUberblock (part ring k 1024) u) place at.0

StandsAtPosition-in_ring : (ring : List ℕ) (label : ℕ) (u : Fields) → StandsInRing ring label u → StandsAtPosition ring (label * 128 + slot_of u.group) u
StandsAtPosition-in_ring ring label u stands =
    let place : 131072 * label + 1024 * slot_of u.group ≡ 1024 * (label * 128 + slot_of u.group) = omega arith in
    (subst (λ (k : ℕ). IsUberblock (part ring k 1024) u) place stands, sym (mod-mul-add label 128 (slot_of u.group) (slot-below u.group)))

-- how many positions are looked at before a slot of a label, and the label of a position
abbrev pub count_of : ℕ → ℕ → ℕ
count_of label slot = 128 * label + (127 - slot)

position_of-count_of : (label slot : ℕ) → slot < 128 → position_of (count_of label slot) ≡ label * 128 + slot
position_of-count_of label slot low = omega (arith, low)

pub label-position_of : (count : ℕ) → position_of count / 128 ≡ count / 128
label-position_of count = omega arith

pub StandsAtPosition-count : (ring : List ℕ) (label : ℕ) (u : Fields) → StandsInRing ring label u → StandsAtPosition ring (position_of (count_of label (slot_of u.group))) u
StandsAtPosition-count ring label u stands =
    subst (λ (k : ℕ). StandsAtPosition ring k u) (sym (position_of-count_of label (slot_of u.group) (slot-below u.group))) (StandsAtPosition-in_ring ring label u stands)

-- the group of what stands at a position is the number in its place
pub group-at : (ring : List ℕ) (position size group : ℕ) (u : Fields) → size ≡ 1024 → group ≡ number_at (part ring (1024 * position) size) 16 → StandsAtPosition ring position u → group ≡ u.group
group-at ring position size group u whole is at =
    is ∙ ap (λ (n : ℕ). number_at (part ring (1024 * position) n) 16) whole ∙ at.0.group
