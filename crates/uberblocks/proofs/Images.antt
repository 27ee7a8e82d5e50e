-- What is active in the arrays of an image is active in the image.
use Rattle.std.proofs.Common.{ℕ, ◌≡◌, ◌+◌, ◌*◌, ◌<◌, List, length, sym, ap, ◌∙◌, subst, arith}
use Rattle.base.specs.formats.Fields.{part}
use Rattle.base.specs.formats.Geometry.{slot_of, slot_place, label_place}
use Rattle.base.specs.formats.Uberblocks.{Uberblock as Fields, IsUberblock, StandsIn, IsActive}
use Rattle.base.proofs.disk.Put.{part-part}
use Rattle.base.proofs.formats.Geometry.{slot-below}
use Rattle.uberblocks.specs.Rings.{StandsInRing, IsActiveInRing, IsRingOf}
use Rattle.uberblocks.specs.Laws.{RingsShowActives, RingsShowNone}

-- a slot of a ring is the slot of the image
pub slot_same : (ring image : List ℕ) (label group : ℕ) → IsRingOf ring image → label < 4
    → part ring (131072 * label + 1024 * slot_of group) 1024 ≡ part image (slot_place (length image) label (slot_of group)) 1024
slot_same ring image label group of below =
    let low = slot-below group in
    let place : slot_place (length image) label 0 + 1024 * slot_of group ≡ slot_place (length image) label (slot_of group) =
    further (label_place (length image) label) (slot_of group) in
    sym (part-part ring (131072 * label) 131072 (1024 * slot_of group) 1024 (omega arith))
    ∙ ap (λ (l : List ℕ). part l (1024 * slot_of group) 1024) (of label below)
    ∙ part-part image (slot_place (length image) label 0) 131072 (1024 * slot_of group) 1024 (omega arith)
    ∙ ap (λ (k : ℕ). part image k 1024) place
  where
    further : (start slot : ℕ) → start + 131072 + 1024 * 0 + 1024 * slot ≡ start + 131072 + 1024 * slot
    further start slot = omega arith

to_image : (ring image : List ℕ) → IsRingOf ring image → (k : ℕ) (u : Fields) → k < 4 → StandsInRing ring k u → StandsIn image k u
to_image ring image of k u below stands = subst (λ (l : List ℕ). IsUberblock l u) (slot_same ring image k u.group of below) stands

to_ring : (ring image : List ℕ) → IsRingOf ring image → (k : ℕ) (u : Fields) → k < 4 → StandsIn image k u → StandsInRing ring k u
to_ring ring image of k u below stands = subst (λ (l : List ℕ). IsUberblock l u) (sym (slot_same ring image k u.group of below)) stands

pub rings_show_actives : RingsShowActives
rings_show_actives ring image u of = (forth, back)
  where
    forth : IsActiveInRing ring u → IsActive image u
    forth is = record {
      label = is.label;
      in_range = is.in_range;
      stands = to_image ring image of is.label u is.in_range is.stands;
      highest = λ k other below stands. is.highest k other below (to_ring ring image of k other below stands);
      lowest = λ k other below stands. is.lowest k other below (to_ring ring image of k other (let low = is.in_range in omega arith) stands);
    }

    back : IsActive image u → IsActiveInRing ring u
    back is = record {
      label = is.label;
      in_range = is.in_range;
      stands = to_ring ring image of is.label u is.in_range is.stands;
      highest = λ k other below stands. is.highest k other below (to_image ring image of k other below stands);
      lowest = λ k other below stands. is.lowest k other below (to_image ring image of k other (let low = is.in_range in omega arith) stands);
    }

pub rings_show_none : RingsShowNone
rings_show_none ring image of =
    (λ none k u below stands. none k u below (to_ring ring image of k u below stands), λ none k u below stands. none k u below (to_image ring image of k u below stands))
