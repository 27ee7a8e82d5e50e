-- What a write makes of the labels. A block touches none, and a config leaves each uberblock. An uberblock of a later
-- group is the active one from its first label on, and leaves each config.
use Rattle.std.proofs.Common.{◌≡◌, ℕ, ◌+◌, ◌<◌, ◌≤◌, List, length, ap, sym, subst, ◌∙◌, arith, ◌⊎◌, inl, inr}
use Rattle.std.specs.Prelude.{◌≢◌}
use Rattle.std.proofs.lemmas.Bool.{cases_lt, cases_order}
use Rattle.base.specs.formats.Fields.{part}
use Rattle.base.specs.formats.Geometry.{block_size, block_count, label_place, config_place, slot_place, slot_of, IsGeometry, IsBlockAddress}
use Rattle.base.specs.formats.Blocks.{IsBlock}
use Rattle.base.specs.disk.Disk.{put, Apart}
use Rattle.base.specs.formats.Uberblocks.{Uberblock, IsUberblock, StandsIn, IsActive, slot_size}
use Rattle.base.specs.formats.Labels.{IsConfig, IsConfigPayload, IsChosen}
use Rattle.base.specs.kept.ShownLabels.{ShowsUberblock}
use Rattle.base.proofs.disk.Put.{length-put, part-put_same, part-put_apart}
use Rattle.base.proofs.formats.LabelPlaces.{label-apart, block-label_apart, slots-apart, slot-config_apart}
use Rattle.base.proofs.formats.Geometry.{slot-below}

-- an uberblock stands where the slot is the same
stands-along : (now later : List ℕ) (k : ℕ) (u : Uberblock) → length later ≡ length now
    → part later (slot_place (length now) k (slot_of u.group)) slot_size ≡ part now (slot_place (length now) k (slot_of u.group)) slot_size → StandsIn now k u → StandsIn later k u
stands-along now later k u size same is = subst (λ (bytes : List ℕ). IsUberblock bytes u)
    (sym (ap (λ (n : ℕ). part later (slot_place n k (slot_of u.group)) slot_size) size ∙ same)) is

stands-back : (now later : List ℕ) (k : ℕ) (u : Uberblock) → length later ≡ length now
    → part later (slot_place (length now) k (slot_of u.group)) slot_size ≡ part now (slot_place (length now) k (slot_of u.group)) slot_size → StandsIn later k u → StandsIn now k u
stands-back now later k u size same is = subst (λ (bytes : List ℕ). IsUberblock bytes u)
    (ap (λ (n : ℕ). part later (slot_place n k (slot_of u.group)) slot_size) size ∙ same) is

-- each config is the same
abbrev pub SameConfigs : List ℕ → List ℕ → Type 0
SameConfigs now later = (k : ℕ) → k < 4 → part later (config_place (length now) k) block_size ≡ part now (config_place (length now) k) block_size

pub config-along : (now later : List ℕ) (k guid group : ℕ) (name : List ℕ) → length later ≡ length now → part later (config_place (length now) k) block_size ≡ part now (config_place (length now) k) block_size
    → IsConfig now k guid group name → IsConfig later k guid group name
config-along now later k guid group name size same is = record {
  payload = is.payload;
  block = subst (λ (bytes : List ℕ). IsBlock bytes 1 guid group 0 is.payload) (sym (ap (λ (n : ℕ). part later (config_place n k) block_size) size ∙ same)) is.block;
  fields = subst (λ (n : ℕ). IsConfigPayload is.payload n name) (sym size) is.fields;
}

config-back : (now later : List ℕ) (k guid group : ℕ) (name : List ℕ) → length later ≡ length now → part later (config_place (length now) k) block_size ≡ part now (config_place (length now) k) block_size
    → IsConfig later k guid group name → IsConfig now k guid group name
config-back now later k guid group name size same is = record {
  payload = is.payload;
  block = subst (λ (bytes : List ℕ). IsBlock bytes 1 guid group 0 is.payload) (ap (λ (n : ℕ). part later (config_place n k) block_size) size ∙ same) is.block;
  fields = subst (λ (n : ℕ). IsConfigPayload is.payload n name) size is.fields;
}

-- so the same one is chosen
chosen-along : (now later : List ℕ) (guid bound found : ℕ) (name : List ℕ) → length later ≡ length now → SameConfigs now later → IsChosen now guid bound found name → IsChosen later guid bound found name
chosen-along now later guid bound found name size same c = record {
  label = c.label;
  in_range = c.in_range;
  stands = config-along now later c.label guid found name size (same c.label c.in_range) c.stands;
  not_above = c.not_above;
  highest = λ k g other below within is. c.highest k g other below within (config-back now later k guid g other size (same k below) is);
  lowest = λ k other before is. c.lowest k other before (let in_range = c.in_range in config-back now later k guid found other size (same k (omega (arith, before, in_range))) is);
}

-- where each slot is the same, the same uberblock is active
abbrev SameSlots : List ℕ → List ℕ → Type 0
SameSlots now later = (k i : ℕ) → k < 4 → i < 128 → part later (slot_place (length now) k i) slot_size ≡ part now (slot_place (length now) k i) slot_size

active-along : (now later : List ℕ) (u : Uberblock) → length later ≡ length now → SameSlots now later → IsActive now u → IsActive later u
active-along now later u size slots x = record {
  label = x.label;
  in_range = x.in_range;
  stands = stands-along now later x.label u size (slots x.label (slot_of u.group) x.in_range (slot-below u.group)) x.stands;
  highest = λ k other below is. x.highest k other below (stands-back now later k other size (slots k (slot_of other.group) below (slot-below other.group)) is);
  lowest = λ k other before is. let in_range = x.in_range in
      x.lowest k other before (stands-back now later k other size (slots k (slot_of other.group) (omega (arith, before, in_range)) (slot-below other.group)) is);
}

-- where each slot and each config is the same, so is what the labels show
shows-along : (now later : List ℕ) (u : Uberblock) (name : List ℕ) → length later ≡ length now → SameSlots now later → SameConfigs now later → ShowsUberblock now u name → ShowsUberblock later u name
shows-along now later u name size slots configs x = record {
  active = active-along now later u size slots x.active;
  config_group = x.config_group;
  chosen = chosen-along now later u.guid u.group x.config_group name size configs x.chosen;
}

-- A block that is written leaves the labels.
module _ (now : List ℕ) (address : ℕ) (content : List ℕ) (geometry : IsGeometry (length now)) (area : IsBlockAddress (block_count (length now)) address) (long : length content ≡ block_size) (fits : address + length content ≤ length now) where
  beside : (k place n : ℕ) → k < 4 → label_place (length now) k ≤ place → place + n ≤ label_place (length now) k + 262144 → Apart address (length content) place n
  beside k place n below from to = subst (λ (m : ℕ). Apart address m place n) (sym long) (block-label_apart (length now) k place n address geometry below from to area)

  pub block-configs : SameConfigs now (put address content now)
  block-configs k below = part-put_apart address content now (config_place (length now) k) block_size fits (beside k (config_place (length now) k) block_size below (omega arith) (omega arith))

  pub block-shows : (u : Uberblock) (name : List ℕ) → ShowsUberblock now u name → ShowsUberblock (put address content now) u name
  block-shows u name x = shows-along now (put address content now) u name (length-put address content now fits)
      (λ k i below in_array. part-put_apart address content now (slot_place (length now) k i) slot_size fits
      (beside k (slot_place (length now) k i) slot_size below (omega arith) (omega (arith, in_array))))
      block-configs x

-- A config that is written into a label leaves the active uberblock.
module _ (now config : List ℕ) (label : ℕ) (geometry : IsGeometry (length now)) (below : label < 4) (long : length config ≡ block_size) where
  pub config-fits : config_place (length now) label + length config ≤ length now
  config-fits = let l = label-apart (length now) label (config_place (length now) label) block_size geometry below (omega arith) (omega arith) in omega (arith, long, l.0)

  apart-from : (k i : ℕ) → k < 4 → i < 128 → Apart (config_place (length now) label) (length config) (slot_place (length now) k i) slot_size
  apart-from k i k_in i_in = elim (slot-config_apart (length now) k i label geometry k_in i_in below) as (λ _. Apart (config_place (length now) label) (length config) (slot_place (length now) k i) slot_size) [
    | inl less ↦ inr less
    | inr more ↦ inl (omega (arith, more, long))
  ]

  pub config-active : (u : Uberblock) → IsActive now u → IsActive (put (config_place (length now) label) config now) u
  config-active u = active-along now (put (config_place (length now) label) config now) u (length-put (config_place (length now) label) config now config-fits)
      (λ k i k_in i_in. part-put_apart (config_place (length now) label) config now (slot_place (length now) k i) slot_size config-fits (apart-from k i k_in i_in))

-- An uberblock that is written into its slot of a label.
module _ (now slot : List ℕ) (v : Uberblock) (label : ℕ) (geometry : IsGeometry (length now)) (below : label < 4) (coded : IsUberblock slot v) where
  abbrev place : ℕ
  place = slot_place (length now) label (slot_of v.group)

  abbrev later : List ℕ
  later = put place slot now

  pub slot-fits : place + length slot ≤ length now
  slot-fits =
      let long = coded.size in
      let in_array = slot-below v.group in
      let l = label-apart (length now) label place slot_size geometry below (omega arith) (omega (arith, in_array)) in
      omega (arith, long, l.0)

  size : length later ≡ length now
  size = length-put place slot now slot-fits

  -- it stands there
  here : StandsIn later label v
  here = subst (λ (bytes : List ℕ). IsUberblock bytes v)
      (sym (ap (λ (n : ℕ). part later (slot_place n label (slot_of v.group)) slot_size) size ∙ ap (λ (n : ℕ). part later place n) (sym coded.size) ∙ part-put_same place slot now slot-fits)) coded

  -- each other slot is as before
  elsewhere : (k i : ℕ) → k < 4 → i < 128 → (label ≢ k) ⊎ (slot_of v.group ≢ i) → part later (slot_place (length now) k i) slot_size ≡ part now (slot_place (length now) k i) slot_size
  elsewhere k i k_in i_in other = part-put_apart place slot now (slot_place (length now) k i) slot_size slot-fits
      (subst (λ (n : ℕ). Apart place n (slot_place (length now) k i) slot_size) (sym coded.size)
      (slots-apart (length now) label (slot_of v.group) k i geometry below (slot-below v.group) k_in i_in other))

  -- and each config
  pub slot-configs : SameConfigs now later
  slot-configs k k_in = part-put_apart place slot now (config_place (length now) k) block_size slot-fits
      (subst (λ (n : ℕ). Apart place n (config_place (length now) k) block_size) (sym coded.size)
      (slot-config_apart (length now) label (slot_of v.group) k geometry below (slot-below v.group) k_in))

  -- what stands in another label stood there before
  in-other : (k : ℕ) (other : Uberblock) → k < 4 → label ≢ k → StandsIn later k other → StandsIn now k other
  in-other k other k_in differ is = stands-back now later k other size (elsewhere k (slot_of other.group) k_in (slot-below other.group) (inl differ)) is

  -- what stands in this one is of this group, or stood there before
  in-this : (other : Uberblock) → StandsIn later label other → (other.group ≡ v.group) ⊎ StandsIn now label other
  in-this other is = by_slot (cases_order (slot_of v.group) (slot_of other.group))
    where
      by_slot : (slot_of v.group ≡ slot_of other.group) ⊎ ((slot_of v.group < slot_of other.group) ⊎ (slot_of other.group < slot_of v.group)) → (other.group ≡ v.group) ⊎ StandsIn now label other
      by_slot (inl same) =
          let bytes : part later (slot_place (length later) label (slot_of other.group)) slot_size ≡ slot =
          ap (λ (n : ℕ). part later (slot_place n label (slot_of other.group)) slot_size) size ∙ ap (λ (i : ℕ). part later (slot_place (length now) label i) slot_size) (sym same)
          ∙ ap (λ (n : ℕ). part later place n) (sym coded.size) ∙ part-put_same place slot now slot-fits in
          let read : IsUberblock slot other = subst (λ (b : List ℕ). IsUberblock b other) bytes is in
          inl (sym read.group ∙ coded.group)
      by_slot (inr (inl less)) = inr (stands-back now later label other size (elsewhere label (slot_of other.group) below (slot-below other.group) (inr (λ same. omega (arith, same, less)))) is)
      by_slot (inr (inr more)) = inr (stands-back now later label other size (elsewhere label (slot_of other.group) below (slot-below other.group) (inr (λ same. omega (arith, same, more)))) is)

  -- none is of a higher group, where none was
  none-higher : ((k : ℕ) (other : Uberblock) → k < 4 → StandsIn now k other → other.group ≤ v.group) → (k : ℕ) (other : Uberblock) → k < 4 → StandsIn later k other → other.group ≤ v.group
  none-higher none k other k_in is = by_label (cases_order label k)
    where
      by_label : (label ≡ k) ⊎ ((label < k) ⊎ (k < label)) → other.group ≤ v.group
      by_label (inl same) = elim (in-this other (subst (λ (l : ℕ). StandsIn later l other) (sym same) is)) as (λ _. other.group ≤ v.group) [
        | inl group ↦ omega (arith, group)
        | inr before ↦ none label other below before
      ]
      by_label (inr (inl less)) = none k other k_in (in-other k other k_in (λ same. omega (arith, same, less)) is)
      by_label (inr (inr more)) = none k other k_in (in-other k other k_in (λ same. omega (arith, same, more)) is)

  -- The first write makes it the active one, with the config that is chosen for it.
  pub slot-shows : (u : Uberblock) (found : ℕ) (name : List ℕ) → u.group < v.group → IsActive now u → IsChosen now v.guid v.group found name → ShowsUberblock later v name
  slot-shows u found name above active chosen = record {
    active = record {
      label = label;
      in_range = below;
      stands = here;
      highest = none-higher (λ k other k_in is. let up = active.highest k other k_in is in omega (arith, up, above));
      lowest = λ k other before is same.
          let up = active.highest k other (omega (arith, before, below)) (in-other k other (omega (arith, before, below)) (λ l. omega (arith, l, before)) is) in
          omega (arith, up, above, same);
    };
    config_group = found;
    chosen = chosen-along now later v.guid v.group found name size slot-configs chosen;
  }

  -- And each further one leaves it that.
  pub slot-shows_again : (name : List ℕ) → ShowsUberblock now v name → ShowsUberblock later v name
  slot-shows_again name x = record {
    active = by_label (cases_lt label x.active.label);
    config_group = x.config_group;
    chosen = chosen-along now later v.guid v.group x.config_group name size slot-configs x.chosen;
  }
    where
      highest : (k : ℕ) (other : Uberblock) → k < 4 → StandsIn later k other → other.group ≤ v.group
      highest = none-higher x.active.highest

      stands : (label ≡ x.active.label) ⊎ ((label < x.active.label) ⊎ (x.active.label < label)) → StandsIn later x.active.label v
      stands (inl same) = subst (λ (l : ℕ). StandsIn later l v) same here
      stands (inr (inl less)) = stands-along now later x.active.label v size (elsewhere x.active.label (slot_of v.group) x.active.in_range (slot-below v.group) (inl (λ same. omega (arith, same, less)))) x.active.stands
      stands (inr (inr more)) = stands-along now later x.active.label v size (elsewhere x.active.label (slot_of v.group) x.active.in_range (slot-below v.group) (inl (λ same. omega (arith, same, more)))) x.active.stands

      by_label : (label < x.active.label) ⊎ (x.active.label ≤ label) → IsActive later v
      by_label (inl less) = record {
        label = label;
        in_range = below;
        stands = here;
        highest = highest;
        lowest = λ k other before is. x.active.lowest k other (omega (arith, before, less)) (in-other k other (omega (arith, before, below)) (λ l. omega (arith, l, before)) is);
      }
      by_label (inr from) = record {
        label = x.active.label;
        in_range = x.active.in_range;
        stands = stands (cases_order label x.active.label);
        highest = highest;
        lowest = λ k other before is. x.active.lowest k other before (in-other k other (omega (arith, before, from, below)) (λ l. omega (arith, l, before, from)) is);
      }
