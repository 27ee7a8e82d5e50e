-- The uberblock that an import writes is the active one.
use Rattle.std.proofs.Common.{◌≡◌, ◌≢◌, ◌⊎◌, inl, inr, ℕ, ◌<◌, ◌≤◌, List, length, sym, ap, subst, arith}
use Rattle.std.proofs.lemmas.Bool.{cases_eq}
use Rattle.base.specs.formats.Fields.{part}
use Rattle.base.specs.formats.Geometry.{slot_of, slot_place}
use Rattle.base.specs.formats.Uberblocks.{Uberblock, IsActive, IsUberblock, StandsIn}
use Rattle.base.proofs.formats.Geometry.{slot-below}
use Rattle.uberblocks.proofs.SlotReads.{readings_agree}
use Rattle.import_replay.specs.Labelled.{HasOtherSlots, HoldUberblock}

-- Where an uberblock above the active one is written into the slot of its group in each label, and the other slots
-- stay, it is active.
module _ (size : ℕ) (image now : List ℕ) (u v : Uberblock) (long : length image ≡ size) (same_long : length now ≡ size) (active : IsActive image u) (above : u.group < v.group)
    (held : HoldUberblock size 4 v now) (others : HasOtherSlots size v.group image now) where
  stands : (k : ℕ) → k < 4 → StandsIn now k v
  stands k low = subst (λ n. IsUberblock (part now (slot_place n k (slot_of v.group)) 1024) v) (sym same_long) (held k low)

  not_above : (k : ℕ) (other : Uberblock) → k < 4 → StandsIn now k other → other.group ≤ v.group
  not_above k other low is = by_slot (cases_eq (slot_of other.group) (slot_of v.group))
    where
      here : IsUberblock (part now (slot_place size k (slot_of other.group)) 1024) other
      here = subst (λ n. IsUberblock (part now (slot_place n k (slot_of other.group)) 1024) other) same_long is

      by_slot : (slot_of other.group ≡ slot_of v.group) ⊎ (slot_of other.group ≢ slot_of v.group) → other.group ≤ v.group
      by_slot (inl same) =
          let agree : other ≡ v = readings_agree (part now (slot_place size k (slot_of v.group)) 1024) other v
          (subst (λ s. IsUberblock (part now (slot_place size k s) 1024) other) same here) (held k low) in
          let group : other.group ≡ v.group = ap (λ (w : Uberblock). w.group) agree in
          omega (arith, group)
      by_slot (inr differ) =
          let old : IsUberblock (part image (slot_place size k (slot_of other.group)) 1024) other =
          subst (λ (l : List ℕ). IsUberblock l other) (others k (slot_of other.group) low (slot-below other.group) differ) here in
          let at_most = active.highest k other low (subst (λ n. IsUberblock (part image (slot_place n k (slot_of other.group)) 1024) other) (sym long) old) in
          omega (arith, at_most, above)

  pub active_now : IsActive now v
  active_now = record {
    label = 0;
    in_range = omega arith;
    stands = stands 0 (omega arith);
    highest = not_above;
    lowest = λ k other below is. absurd (omega (arith, below));
  }
