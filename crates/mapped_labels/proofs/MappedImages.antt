-- What is active in the arrays of an image is active in the image.
use Rattle.std.proofs.Common.{ℕ, ◌≡◌, ◌+◌, ◌*◌, ◌<◌, List, length, sym, ap, ◌∙◌, subst, arith}
use Rattle.base.specs.formats.Fields.{part}
use Rattle.base.specs.formats.Geometry.{label_place, slot_place}
use Rattle.mapped_labels.specs.Shapes.{mapped_slot_of, mapped_slot_place}
use Rattle.mapped_labels.specs.MappedUberblocks.{MappedState, IsMappedUberblock, StandsInMapped, IsMappedActive}
use Rattle.base.proofs.disk.Put.{part-part}
use Rattle.uberblocks.specs.Rings.{IsRingOf}
use Rattle.mapped_labels.specs.MappedRings.{StandsInRing, IsActiveInRing}
use Rattle.mapped_labels.proofs.MappedPlaces.{slot-below}
use Rattle.mapped_labels.specs.Laws.{RingsShowActives, RingsShowNone}

-- a slot of a ring is the slot of the image
pub slot_same : (ring image : List ℕ) (label group : ℕ) → IsRingOf ring image → label < 4
    → part ring (131072 * label + 4096 * mapped_slot_of group) 4096 ≡ part image (mapped_slot_place (length image) label (mapped_slot_of group)) 4096
slot_same ring image label group of below =
    let low = slot-below group in
    let place : slot_place (length image) label 0 + 4096 * mapped_slot_of group ≡ mapped_slot_place (length image) label (mapped_slot_of group) =
    further (label_place (length image) label) (mapped_slot_of group) in
    sym (part-part ring (131072 * label) 131072 (4096 * mapped_slot_of group) 4096 (omega arith))
    ∙ ap (λ (l : List ℕ). part l (4096 * mapped_slot_of group) 4096) (of label below)
    ∙ part-part image (slot_place (length image) label 0) 131072 (4096 * mapped_slot_of group) 4096 (omega arith)
    ∙ ap (λ (k : ℕ). part image k 4096) place
  where
    further : (start slot : ℕ) → start + 131072 + 1024 * 0 + 4096 * slot ≡ start + 131072 + 4096 * slot
    further start slot = omega arith

to_image : (ring image : List ℕ) → IsRingOf ring image → (k : ℕ) (u : MappedState) → k < 4 → StandsInRing ring k u → StandsInMapped image k u
to_image ring image of k u below stands = subst (λ (l : List ℕ). IsMappedUberblock l u) (slot_same ring image k u.state.group of below) stands

to_ring : (ring image : List ℕ) → IsRingOf ring image → (k : ℕ) (u : MappedState) → k < 4 → StandsInMapped image k u → StandsInRing ring k u
to_ring ring image of k u below stands = subst (λ (l : List ℕ). IsMappedUberblock l u) (sym (slot_same ring image k u.state.group of below)) stands

pub rings_show_actives : RingsShowActives
rings_show_actives ring image u of = (forth, back)
  where
    forth : IsActiveInRing ring u → IsMappedActive image u
    forth is = record {
      label = is.label;
      in_range = is.in_range;
      stands = to_image ring image of is.label u is.in_range is.stands;
      highest = λ k other below stands. is.highest k other below (to_ring ring image of k other below stands);
      lowest = λ k other below stands. is.lowest k other below (to_ring ring image of k other (let low = is.in_range in omega arith) stands);
    }

    back : IsMappedActive image u → IsActiveInRing ring u
    back is = record {
      label = is.label;
      in_range = is.in_range;
      stands = to_ring ring image of is.label u is.in_range is.stands;
      highest = λ k other below stands. is.highest k other below (to_image ring image of k other below stands);
      lowest = λ k other below stands. is.lowest k other below (to_image ring image of k other (let low = is.in_range in omega arith) stands);
    }

pub rings_show_none : RingsShowNone
rings_show_none ring image of =
    (λ none k u below stands. none k u below (to_ring ring image of k u below stands), λ none k u below stands. none k u below (to_image ring image of k u below stands))
