-- Which whole places spare what a view fixes: a block that its tree and its flushed log have not, the config of another
-- label, another slot.
use Rattle.std.proofs.Common.{◌≡◌, ◌⊎◌, inl, inr, ℕ, zero, suc, ◌+◌, ◌<◌, ◌≤◌, List, [], ◌∷◌, length, refl, sym, subst, arith}
use Rattle.std.specs.Prelude.{◌≢◌, slice_get, Some, None}
use Rattle.std.proofs.lemmas.Bool.{cases_order}
use Rattle.base.specs.formats.Fields.{no_pointer}
use Rattle.base.specs.formats.Geometry.{IsGeometry, IsBlockAddress, block_address, block_count, block_size, config_place, slot_place, slot_of}
use Rattle.base.specs.formats.Chain.{Header, next_block}
use Rattle.base.specs.formats.Uberblocks.{slot_size}
use Rattle.base.specs.tree.Places.{Place, IsPlace}
use Rattle.base.specs.kept.PlacedTrees.{ArePlaced}
use Rattle.base.specs.disk.Disk.{Apart}
use Rattle.base.specs.disk.Fairness.{IsCheckedPlace}
use Rattle.base.specs.tree.Mount.{header_of}
use Rattle.base.specs.kept.Views.{View, Logged, IsView, AreLinked}
use Rattle.base.specs.kept.CallStages.{FixedLabels, SparesAt}
use Rattle.base.proofs.disk.FairBytes.{same_or_apart}
use Rattle.base.proofs.disk.Put.{apart_turned}
use Rattle.base.proofs.formats.Geometry.{slot-below, labels-apart}
use Rattle.base.proofs.formats.LabelPlaces.{block-label_apart, label-apart, slots-apart, slot-config_apart}

-- log blocks that follow one another are blocks of the area
pub linked_placed : (guid blocks chain : ℕ) (header : Header) (ls : List Logged) → AreLinked guid blocks chain header ls → (i : ℕ) (l : Logged) → slice_get ls i ≡ Some l
    → (length l.content ≡ block_size) × IsBlockAddress blocks l.block.address
linked_placed guid blocks chain header [] linked i l at = absurd (let no_way : None ≡ Some l = at in cc)
linked_placed guid blocks chain header (x ∷ xs) linked zero l at =
    let same : x ≡ l = cc in
    subst (λ (y : Logged). (length y.content ≡ block_size) × IsBlockAddress blocks y.block.address) same
    (linked.0.3.sealed.size, subst (λ (a : ℕ). IsBlockAddress blocks a) (sym linked.0.0) linked.0.2)
linked_placed guid blocks chain header (x ∷ xs) linked (suc i) l at = linked_placed guid blocks chain (next_block header x.block) xs linked.1 i l at

module _ (size : ℕ) (g : IsGeometry size) where
  -- two checked places that begin at different ones
  differ_apart : (a m b n : ℕ) → IsCheckedPlace size a m → IsCheckedPlace size b n → a ≢ b → Apart a m b n
  differ_apart a m b n here there differ = elim (same_or_apart size g a m b n here there) as (λ _. Apart a m b n) [
    | inl same ↦ absurd (differ same.0)
    | inr apart ↦ apart
  ]

  block_checked : (a : ℕ) → IsBlockAddress (block_count size) a → IsCheckedPlace size a block_size
  block_checked a is = inl (refl, inl is)

  config_checked : (label : ℕ) → label < 4 → IsCheckedPlace size (config_place size label) block_size
  config_checked label below = inl (refl, inr (label, below, refl))

  slot_checked : (label slot : ℕ) → label < 4 → slot < 128 → IsCheckedPlace size (slot_place size label slot) slot_size
  slot_checked label slot below in_array = inr (refl, (label, slot, below, in_array, refl))

  block_config : (a label : ℕ) → IsBlockAddress (block_count size) a → label < 4 → Apart a block_size (config_place size label) block_size
  block_config a label is below = block-label_apart size label (config_place size label) block_size a g below (omega arith) (omega arith) is

  block_slot : (a label slot : ℕ) → IsBlockAddress (block_count size) a → label < 4 → slot < 128 → Apart a block_size (slot_place size label slot) slot_size
  block_slot a label slot is below in_array = block-label_apart size label (slot_place size label slot) slot_size a g below (omega arith) (omega (arith, in_array)) is

  configs_differ : (k l : ℕ) → k < 4 → l < 4 → k ≢ l → Apart (config_place size k) block_size (config_place size l) block_size
  configs_differ k l k_in l_in differ = elim (cases_below k l differ) as (λ _. Apart (config_place size k) block_size (config_place size l) block_size) [
    | inl less ↦ inl (omega (arith, labels-apart size k l g less l_in))
    | inr more ↦ inr (omega (arith, labels-apart size l k g more k_in))
  ]
    where
      cases_below : (i j : ℕ) → i ≢ j → (i < j) ⊎ (j < i)
      cases_below i j other = elim (cases_order i j) as (λ _. (i < j) ⊎ (j < i)) [
        | inl same ↦ absurd (other same)
        | inr less ↦ less
      ]

  -- A view whose tree has its blocks in the area.
  module _ (flushed : ℕ) (at : FixedLabels) (v : View) (view : IsView size v) (placed : ArePlaced (block_count size) v.pointers) where
    config_long : length v.config ≡ block_size
    config_long = view.config.block.size

    slot_long : length v.slot ≡ slot_size
    slot_long = view.uberblock.size

    address_of : (p : Place) → IsPlace p → v.pointers p ≢ no_pointer → IsBlockAddress (block_count size) (v.pointers p).address
    address_of p in_range some = elim (placed p in_range) as (λ _. IsBlockAddress (block_count size) (v.pointers p).address) [
      | inl none ↦ absurd (some none)
      | inr is ↦ is
    ]

    logged_at : (i : ℕ) (l : Logged) → slice_get v.logged i ≡ Some l → (length l.content ≡ block_size) × IsBlockAddress (block_count size) l.block.address
    logged_at i l there = linked_placed v.u.guid (block_count size) v.u.import_number (header_of v.u) v.logged view.linked i l there

    -- what begins apart from each block of the area spares the tree and the log
    pub label_tree : (place n : ℕ) → ((a : ℕ) → IsBlockAddress (block_count size) a → Apart place n a block_size) → (p : Place) → IsPlace p → v.pointers p ≢ no_pointer → Apart place n (v.pointers p).address block_size
    label_tree place n apart p in_range some = apart (v.pointers p).address (address_of p in_range some)

    pub label_log : (place n : ℕ) → ((a : ℕ) → IsBlockAddress (block_count size) a → Apart place n a block_size) → (i : ℕ) (l : Logged) → i < flushed → slice_get v.logged i ≡ Some l → Apart place n l.block.address (length l.content)
    label_log place n apart i l below there =
        let l_at = logged_at i l there in subst (λ (k : ℕ). Apart place n l.block.address k) (sym l_at.0) (apart l.block.address l_at.1)

    pub block_spares : (k : ℕ) → k < block_count size → block_address k + block_size ≤ size → ((p : Place) → IsPlace p → v.pointers p ≢ no_pointer → block_address k ≢ (v.pointers p).address)
        → ((i : ℕ) (l : Logged) → i < flushed → slice_get v.logged i ≡ Some l → block_address k ≢ l.block.address) → SparesAt size flushed at v (block_address k) block_size
    block_spares k below fits not_in_tree not_logged =
        let is : IsBlockAddress (block_count size) (block_address k) = (k, below, refl) in
        record {
          whole = block_checked (block_address k) is;
          fits = fits;
          not_config = subst (λ (n : ℕ). Apart (block_address k) block_size (config_place size at.config) n) (sym config_long) (block_config (block_address k) at.config is at.config_below);
          not_slot = subst (λ (n : ℕ). Apart (block_address k) block_size (slot_place size at.slot (slot_of v.u.group)) n) (sym slot_long)
              (block_slot (block_address k) at.slot (slot_of v.u.group) is at.slot_below (slot-below v.u.group));
          not_tree = λ p in_range some.
              differ_apart (block_address k) block_size (v.pointers p).address block_size (block_checked (block_address k) is) (block_checked (v.pointers p).address (address_of p in_range some)) (not_in_tree p in_range some);
          not_log = λ i l flushed_there there.
              let l_at = logged_at i l there in
              subst (λ (n : ℕ). Apart (block_address k) block_size l.block.address n) (sym l_at.0)
              (differ_apart (block_address k) block_size l.block.address block_size (block_checked (block_address k) is) (block_checked l.block.address l_at.1) (not_logged i l flushed_there there));
        }

    -- the config of a label that has not what is fixed
    pub config_spares : (label : ℕ) → label < 4 → label ≢ at.config → SparesAt size flushed at v (config_place size label) block_size
    config_spares label below differ =
        let apart : (a : ℕ) → IsBlockAddress (block_count size) a → Apart (config_place size label) block_size a block_size = λ a is. apart_turned a block_size (config_place size label) block_size (block_config a label is below) in
        record {
          whole = config_checked label below;
          fits = (label-apart size label (config_place size label) block_size g below (omega arith) (omega arith)).0;
          not_config = subst (λ (n : ℕ). Apart (config_place size label) block_size (config_place size at.config) n) (sym config_long) (configs_differ label at.config below at.config_below differ);
          not_slot = subst (λ (n : ℕ). Apart (config_place size label) block_size (slot_place size at.slot (slot_of v.u.group)) n) (sym slot_long)
              (apart_turned (slot_place size at.slot (slot_of v.u.group)) slot_size (config_place size label) block_size (slot-config_apart size at.slot (slot_of v.u.group) label g at.slot_below (slot-below v.u.group) below));
          not_tree = label_tree (config_place size label) block_size apart;
          not_log = label_log (config_place size label) block_size apart;
        }

    pub slot_blocks : (label slot : ℕ) → label < 4 → slot < 128 → (a : ℕ) → IsBlockAddress (block_count size) a → Apart (slot_place size label slot) slot_size a block_size
    slot_blocks label slot below in_array a is = apart_turned a block_size (slot_place size label slot) slot_size (block_slot a label slot is below in_array)

    -- the slot of the view's group in another label than the fixed one
    pub own_slot_spares : (label : ℕ) → label < 4 → label ≢ at.slot → SparesAt size flushed at v (slot_place size label (slot_of v.u.group)) slot_size
    own_slot_spares label below differ =
        let slot : ℕ = slot_of v.u.group in
        record {
          whole = slot_checked label slot below (slot-below v.u.group);
          fits = (label-apart size label (slot_place size label slot) slot_size g below (omega arith) (let in_array : slot < 128 = slot-below v.u.group in omega (arith, in_array))).0;
          not_config = subst (λ (n : ℕ). Apart (slot_place size label slot) slot_size (config_place size at.config) n) (sym config_long) (slot-config_apart size label slot at.config g below (slot-below v.u.group) at.config_below);
          not_slot = subst (λ (n : ℕ). Apart (slot_place size label slot) slot_size (slot_place size at.slot slot) n) (sym slot_long)
              (slots-apart size label slot at.slot slot g below (slot-below v.u.group) at.slot_below (slot-below v.u.group) (inl differ));
          not_tree = label_tree (slot_place size label slot) slot_size (slot_blocks label slot below (slot-below v.u.group));
          not_log = label_log (slot_place size label slot) slot_size (slot_blocks label slot below (slot-below v.u.group));
        }

    -- another slot than that of the view's group
    pub slot_spares : (label slot : ℕ) → label < 4 → slot < 128 → slot ≢ slot_of v.u.group → SparesAt size flushed at v (slot_place size label slot) slot_size
    slot_spares label slot below in_array differ = record {
      whole = slot_checked label slot below in_array;
      fits = (label-apart size label (slot_place size label slot) slot_size g below (omega arith) (omega (arith, in_array))).0;
      not_config = subst (λ (n : ℕ). Apart (slot_place size label slot) slot_size (config_place size at.config) n) (sym config_long) (slot-config_apart size label slot at.config g below in_array at.config_below);
      not_slot = subst (λ (n : ℕ). Apart (slot_place size label slot) slot_size (slot_place size at.slot (slot_of v.u.group)) n) (sym slot_long)
          (slots-apart size label slot at.slot (slot_of v.u.group) g below in_array at.slot_below (slot-below v.u.group) (inr differ));
      not_tree = label_tree (slot_place size label slot) slot_size (slot_blocks label slot below in_array);
      not_log = label_log (slot_place size label slot) slot_size (slot_blocks label slot below in_array);
    }
