-- Uberblocks in an image and in its arrays: there is one active one at most, and the next groups have other slots.
use Rattle.std.proofs.Common.{ℕ, ◌≡◌, ◌+◌, ◌*◌, ◌<◌, ◌⊎◌, inl, inr, length, sym, subst, arith}
use Rattle.std.proofs.lemmas.Bool.{cases_order}
use Rattle.base.specs.formats.Fields.{part}
use Rattle.mapped_labels.specs.Shapes.{mapped_slot_of, mapped_slot_place}
use Rattle.mapped_labels.specs.MappedUberblocks.{IsMappedUberblock, StandsInMapped}
use Rattle.mapped_labels.specs.MappedRings.{StandsInRing}
use Rattle.mapped_labels.specs.Laws.{ActivesAgree, RingActivesAgree, SlotsDiffer}
use Rattle.mapped_labels.proofs.MappedReads.{readings_agree}

-- the next 31 groups have other slots
pub slots_differ : SlotsDiffer
slots_differ group later after near same = omega (arith, after, near, same)

-- an image has one active uberblock at most
pub actives_agree : ActivesAgree
actives_agree image u v x y = by_label (cases_order x.label y.label)
  where
    groups : u.state.group ≡ v.state.group
    groups =
        let up = y.highest x.label u x.in_range x.stands in
        let down = x.highest y.label v y.in_range y.stands in
        omega (arith, up, down)

    by_label : (x.label ≡ y.label) ⊎ ((x.label < y.label) ⊎ (y.label < x.label)) → u ≡ v
    by_label (inl same) = readings_agree (part image (mapped_slot_place (length image) y.label (mapped_slot_of v.state.group)) 4096) u v
        (subst (λ (g : ℕ). IsMappedUberblock (part image (mapped_slot_place (length image) y.label (mapped_slot_of g)) 4096) u) groups (subst (λ (k : ℕ). StandsInMapped image k u) same x.stands)) y.stands
    by_label (inr (inl less)) = absurd (y.lowest x.label u less x.stands groups)
    by_label (inr (inr more)) = absurd (x.lowest y.label v more y.stands (sym groups))

-- and so have the arrays
pub ring_actives_agree : RingActivesAgree
ring_actives_agree ring u v x y = by_label (cases_order x.label y.label)
  where
    groups : u.state.group ≡ v.state.group
    groups =
        let up = y.highest x.label u x.in_range x.stands in
        let down = x.highest y.label v y.in_range y.stands in
        omega (arith, up, down)

    by_label : (x.label ≡ y.label) ⊎ ((x.label < y.label) ⊎ (y.label < x.label)) → u ≡ v
    by_label (inl same) = readings_agree (part ring (131072 * y.label + 4096 * mapped_slot_of v.state.group) 4096) u v
        (subst (λ (g : ℕ). IsMappedUberblock (part ring (131072 * y.label + 4096 * mapped_slot_of g) 4096) u) groups (subst (λ (k : ℕ). StandsInRing ring k u) same x.stands)) y.stands
    by_label (inr (inl less)) = absurd (y.lowest x.label u less x.stands groups)
    by_label (inr (inr more)) = absurd (x.lowest y.label v more y.stands (sym groups))
