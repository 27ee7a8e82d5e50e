-- What each write of a create makes of the labels.
use Rattle.std.proofs.Common.{◌≡◌, ℕ, zero, suc, ◌+◌, ◌-◌, ◌*◌, ◌<◌, ◌≤◌, ◌⊎◌, inl, inr, true, List, [], length, get_or, replicate, Result, Ok, Err, sym, ◌∙◌, ap, subst, arith}
use Rattle.std.specs.Prelude.{OnOk}
use Rattle.std.proofs.lemmas.Bool.{cases_lt, cases_order}
use Rattle.std.proofs.lemmas.List.{length-replicate}
use Rattle.base.specs.declared.error.PoolError.{PoolError}
use Rattle.base.specs.formats.Fields.{part}
use Rattle.base.specs.disk.Disk.{Disk, bytes_of, put, written, IsInRange}
use Rattle.base.specs.disk.Calls.{Flushes}
use Rattle.base.specs.formats.Geometry.{IsGeometry, block_area, block_size, block_address, block_count, label_place, config_place, slot_of, slot_place}
use Rattle.base.specs.formats.Labels.{Config}
use Rattle.base.specs.formats.Uberblocks.{Uberblock, IsUberblock}
use Rattle.base.proofs.disk.Put.{Apart, get_or-put_other, part-put_same, part-put_apart, get_or-put_in, outside_range}
use Rattle.base.proofs.disk.Regions.{flushed_clean}
use Rattle.labels.specs.Configs.{IsConfigBlock}
use Rattle.base.proofs.formats.Geometry.{labels-apart, label-on_device, blocks-end, IsGeometry-IsSize, slot-below}
use Rattle.base.proofs.common.KeptLists.{get_or-zeros as get_or-nothing}
use Rattle.import_replay.specs.Creations.{first_config}
use Rattle.import_replay.specs.Cleared.{zeros, IsInTail, IsInConfig, IsInFirstSlot, AreTailsCleared, AreBlocksCleared, IsCleared}
use Rattle.import_replay.specs.Labelled.{HoldConfig, HoldUberblock}

-- what holds of the bytes with a write's over them holds once the write answered Ok
pub after_write : (P : List ℕ → Type 0) (old new : Disk) (place other : ℕ) (content : List ℕ) → new ≡ written place content true old → place ≡ other → P (put other content (bytes_of old.now)) → P (bytes_of new.now)
after_write P old new place other content is same holds =
    subst (λ (d : Disk). P (bytes_of d.now)) (sym is) (subst (λ (k : ℕ). P (put k content (bytes_of old.now))) (sym same) holds)

-- a flush keeps what holds of the bytes
pub after_flush : (P : List ℕ → Type 0) (old new : Disk) → Flushes old (Ok tt) new → P (bytes_of old.now) → P (bytes_of new.now)
after_flush P old new is holds = subst P (sym (flushed_clean old new is).1) holds

pub after_last_flush : (P : List ℕ → Type 0) (old new : Disk) (r : Result (Unit {0}) PoolError) → Flushes old r new → P (bytes_of old.now) → OnOk r (P (bytes_of new.now))
after_last_flush P old new (Ok x) is holds = after_flush P old new is holds
after_last_flush P old new (Err e) is holds = tt

-- and leaves nothing unflushed
pub settles : (old new : Disk) (r : Result (Unit {0}) PoolError) → Flushes old r new → OnOk r (new.now.unflushed ≡ [])
settles old new (Ok x) is = (flushed_clean old new is).0
settles old new (Err e) is = tt

pub length-zeros : (n : ℕ) → length (zeros n) ≡ n
unfolding zeros
length-zeros n = length-replicate n 0

get_or-zeros : (n k : ℕ) → get_or (zeros n) k 0 ≡ zero
unfolding zeros
get_or-zeros n k = get_or-nothing n k

-- the block that was made of the first config holds it
pub first_config_block : (block seen name : List ℕ) (config : Config) (guid n size : ℕ) → seen ≡ block → config ≡ first_config name guid n → n ≡ size → IsConfigBlock block config.size config
    → IsConfigBlock seen size (first_config name guid size)
first_config_block block seen name config guid n size shown made whole holds =
    let own : IsConfigBlock block n (first_config name guid n) = subst (λ (c : Config). IsConfigBlock block c.size c) made holds in
    let told : IsConfigBlock block size (first_config name guid size) = subst (λ (k : ℕ). IsConfigBlock block k (first_config name guid k)) whole own in
    subst (λ (l : List ℕ). IsConfigBlock l size (first_config name guid size)) (sym shown) told

module _ (size : ℕ) (is : IsGeometry size) (image : List ℕ) (long : length image ≡ size) where
  -- a write apart from what is cleared leaves it so
  tails_put : (n place : ℕ) (content : List ℕ) → place + length content ≤ size
      → ((label i : ℕ) → label < n → IsInTail size label i → (IsInConfig size label i → ⊥) → (IsInFirstSlot size label i → ⊥) → (i < place) ⊎ (place + length content ≤ i))
      → AreTailsCleared size n image → AreTailsCleared size n (put place content image)
  tails_put n place content fits beside cleared label i below inside not_config not_slot =
      get_or-put_other place content image i (omega (arith, fits, long)) (beside label i below inside not_config not_slot) ∙ cleared label i below inside not_config not_slot

  blocks_put : (n place m : ℕ) (content : List ℕ) → place + length content ≤ size → length content ≡ m
      → ((i : ℕ) → IsInRange block_area (block_size * n) i → (i < place) ⊎ (place + m ≤ i))
      → AreBlocksCleared n image → AreBlocksCleared n (put place content image)
  blocks_put n place m content fits content_long beside cleared i inside =
      get_or-put_other place content image i (omega (arith, fits, long)) (subst (λ (k : ℕ). (i < place) ⊎ (place + k ≤ i)) (sym content_long) (beside i inside)) ∙ cleared i inside

  -- zeros over the end of a label
  pub cleared_next : (n : ℕ) (content : List ℕ) → n < 4 → content ≡ zeros 245760 → AreTailsCleared size n image → AreTailsCleared size (n + 1) (put (label_place size n + 16384) content image)
  cleared_next n content below_4 all cleared label i below inside not_config not_slot = go (cases_lt label n)
    where
      content_long : length content ≡ 245760
      content_long = ap (λ (l : List ℕ). length l) all ∙ length-zeros 245760

      fits : label_place size n + 16384 + length content ≤ length image
      fits = omega (arith, (label-on_device size n is below_4).within, content_long, long)

      there : label ≡ n → (label_place size n + 16384 ≤ i) × (i < label_place size n + 16384 + length content)
      there same =
          let at : label_place size label ≡ label_place size n = ap (label_place size) same in
          (omega (arith, inside.0, at), omega (arith, inside.1, at, content_long))

      go : (label < n) ⊎ (n ≤ label) → get_or (put (label_place size n + 16384) content image) i 0 ≡ zero
      go (inl less) = get_or-put_other (label_place size n + 16384) content image i fits (inl (omega (arith, labels-apart size label n is less below_4, inside.1))) ∙ cleared label i less inside not_config not_slot
      go (inr more) =
          let at = there (omega (arith, more, below)) in
          get_or-put_in (label_place size n + 16384) content image i fits at.0 at.1
          ∙ ap (λ (l : List ℕ). get_or l (i - (label_place size n + 16384)) 0) all
          ∙ get_or-zeros 245760 (i - (label_place size n + 16384))

  -- zeros over a block
  pub block_next : (k m : ℕ) (content : List ℕ) → k < block_count size → length content ≡ 4096 → content ≡ replicate m 0 → AreBlocksCleared k image → AreBlocksCleared (k + 1) (put (block_address k) content image)
  block_next k m content below content_long all cleared i inside = go (cases_lt i (block_address k))
    where
      fits : block_address k + length content ≤ length image
      fits = omega (arith, blocks-end size is, below, content_long, long)

      go : (i < block_address k) ⊎ (block_address k ≤ i) → get_or (put (block_address k) content image) i 0 ≡ zero
      go (inl before) = get_or-put_other (block_address k) content image i fits (inl before) ∙ cleared i (inside.0, before)
      go (inr from) =
          get_or-put_in (block_address k) content image i fits from (omega (arith, inside.1, content_long))
          ∙ ap (λ (l : List ℕ). get_or l (i - block_address k) 0) all
          ∙ get_or-nothing m (i - block_address k)

  -- blocks lie apart from labels
  tails_beside_block : (k label i : ℕ) → k < block_count size → label < 4 → IsInTail size label i → (i < block_address k) ⊎ (block_address k + 4096 ≤ i)
  tails_beside_block k zero i below label_below inside = inl (omega (arith, inside.1))
  tails_beside_block k (suc zero) i below label_below inside = inl (omega (arith, inside.1))
  tails_beside_block k (suc (suc zero)) i below label_below inside = inr (omega (arith, inside.0, blocks-end size is, below))
  tails_beside_block k (suc (suc (suc l))) i below label_below inside =
      inr (omega (arith, inside.0, blocks-end size is, below, (IsGeometry-IsSize size is).least))

  blocks_beside_label : (label place m i : ℕ) → label < 4 → label_place size label ≤ place → place + m ≤ label_place size label + 262144
      → IsInRange block_area (block_size * block_count size) i → (i < place) ⊎ (place + m ≤ i)
  blocks_beside_label zero place m i below from to inside = inr (omega (arith, to, inside.0))
  blocks_beside_label (suc zero) place m i below from to inside = inr (omega (arith, to, inside.0))
  blocks_beside_label (suc (suc zero)) place m i below from to inside = inl (omega (arith, from, inside.1, blocks-end size is))
  blocks_beside_label (suc (suc (suc l))) place m i below from to inside = inl (omega (arith, from, inside.1, blocks-end size is, (IsGeometry-IsSize size is).least))

  pub block_beside : (k : ℕ) (content : List ℕ) → k < block_count size → length content ≡ 4096 → AreTailsCleared size 4 image → AreTailsCleared size 4 (put (block_address k) content image)
  block_beside k content below content_long =
      tails_put 4 (block_address k) content (omega (arith, blocks-end size is, below, content_long))
      (λ label i label_below inside not_config not_slot. subst (λ (n : ℕ). (i < block_address k) ⊎ (block_address k + n ≤ i)) (sym content_long) (tails_beside_block k label i below label_below inside))

  -- parts of different labels lie apart
  apart : (k l place n other m : ℕ) → k < 4 → l < 4 → (k ≡ l → ⊥) → label_place size k ≤ place → place + n ≤ label_place size k + 262144
      → label_place size l ≤ other → other + m ≤ label_place size l + 262144 → Apart place n other m
  apart k l place n other m k_below l_below not from to from_other to_other = go (cases_order k l)
    where
      go : (k ≡ l) ⊎ ((k < l) ⊎ (l < k)) → Apart place n other m
      go (inl same) = absurd (not same)
      go (inr (inl less)) = inl (omega (arith, labels-apart size k l is less l_below, to, from_other))
      go (inr (inr more)) = inr (omega (arith, labels-apart size l k is more k_below, from, to_other))

  -- what was put at a place stands there
  part_there : (place other n : ℕ) (content : List ℕ) → place + length content ≤ length image → place ≡ other → length content ≡ n → part (put place content image) other n ≡ content
  part_there place other n content fits same content_long =
      ap (λ (k : ℕ). part (put place content image) k n) (sym same)
      ∙ ap (λ (k : ℕ). part (put place content image) place k) (sym content_long)
      ∙ part-put_same place content image fits

  -- and what lies apart stands as it did
  part_stands : (place other n m : ℕ) (content : List ℕ) → place + length content ≤ length image → length content ≡ n → Apart place n other m → part (put place content image) other m ≡ part image other m
  part_stands place other n m content fits content_long beside =
      part-put_apart place content image other m fits (subst (λ (k : ℕ). Apart place k other m) (sym content_long) beside)

  -- a fact of a part of each label below n, which a write makes true of label n
  module _ (P : List ℕ → Type 0) (place_of : ℕ → ℕ) (m : ℕ) (inside : (label : ℕ) → (label_place size label ≤ place_of label) × (place_of label + m ≤ label_place size label + 262144)) where
    each_next : (n : ℕ) (content : List ℕ) → n < 4 → length content ≡ m → P content → ((label : ℕ) → label < n → P (part image (place_of label) m))
        → (label : ℕ) → label < n + 1 → P (part (put (place_of n) content image) (place_of label) m)
    each_next n content below_4 content_long holds each label below = go (cases_lt label n)
      where
        fits : place_of n + length content ≤ length image
        fits = omega (arith, (label-on_device size n is below_4).within, (inside n).1, content_long, long)

        go : (label < n) ⊎ (n ≤ label) → P (part (put (place_of n) content image) (place_of label) m)
        go (inl less) =
            let beside = apart n label (place_of n) m (place_of label) m below_4 (omega (arith, less, below_4)) (λ same. omega (arith, same, less)) (inside n).0 (inside n).1 (inside label).0 (inside label).1 in
            subst P (sym (part_stands (place_of n) (place_of label) m m content fits content_long beside)) (each label less)
        go (inr more) =
            let same : n ≡ label = omega (arith, more, below) in
            subst P (sym (part_there (place_of n) (place_of label) m content fits (ap place_of same) content_long)) holds

  config_inside : (label : ℕ) → (label_place size label ≤ config_place size label) × (config_place size label + 4096 ≤ label_place size label + 262144)
  config_inside label = (omega arith, omega arith)

  slot_inside : (slot : ℕ) → slot < 128 → (label : ℕ) → (label_place size label ≤ slot_place size label slot) × (slot_place size label slot + 1024 ≤ label_place size label + 262144)
  slot_inside slot low label = (omega arith, omega (arith, low))

  -- a config in one label more
  pub config_next : (n : ℕ) (block : List ℕ) (config : Config) → n < 4 → length block ≡ 4096 → IsConfigBlock block size config → HoldConfig size n config image
      → HoldConfig size (n + 1) config (put (config_place size n) block image)
  config_next n block config below_4 block_long holds each =
      each_next (λ (l : List ℕ). IsConfigBlock l size config) (config_place size) 4096 config_inside n block below_4 block_long holds each

  -- a part of a label that none of the cleared bytes lies in
  label_beside : (n place m : ℕ) (content : List ℕ) → n < 4 → length content ≡ m → label_place size n ≤ place → place + m ≤ label_place size n + 262144
      → ((i : ℕ) → (IsInConfig size n i → ⊥) → (IsInFirstSlot size n i → ⊥) → IsInRange place m i → ⊥)
      → IsCleared size image → IsCleared size (put place content image)
  label_beside n place m content below_4 content_long from to kept cleared = (
    tails_put 4 place content fits (λ label i below inside not_config not_slot. subst (λ (k : ℕ). (i < place) ⊎ (place + k ≤ i)) (sym content_long) (go label i below inside not_config not_slot (cases_order n label))) cleared.0,
    blocks_put (block_count size) place m content fits content_long (λ i inside. blocks_beside_label n place m i below_4 from to inside) cleared.1,
  )
    where
      fits : place + length content ≤ size
      fits = omega (arith, (label-on_device size n is below_4).within, content_long, to)

      go : (label i : ℕ) → label < 4 → IsInTail size label i → (IsInConfig size label i → ⊥) → (IsInFirstSlot size label i → ⊥) → (n ≡ label) ⊎ ((n < label) ⊎ (label < n))
          → (i < place) ⊎ (place + m ≤ i)
      go label i below inside not_config not_slot (inl same) =
          outside_range place m i (kept i
          (subst (λ (l : ℕ). IsInConfig size l i → ⊥) (sym same) not_config)
          (subst (λ (l : ℕ). IsInFirstSlot size l i → ⊥) (sym same) not_slot))
      go label i below inside not_config not_slot (inr (inl less)) = inr (omega (arith, inside.0, labels-apart size n label is less below, to))
      go label i below inside not_config not_slot (inr (inr more)) = inl (omega (arith, inside.1, labels-apart size label n is more below_4, from))

  -- a config leaves what is cleared
  pub config_beside : (n : ℕ) (block : List ℕ) → n < 4 → length block ≡ 4096 → IsCleared size image → IsCleared size (put (config_place size n) block image)
  config_beside n block below_4 block_long =
      label_beside n (config_place size n) 4096 block below_4 block_long (config_inside n).0 (config_inside n).1 (λ i not_config not_slot here. not_config here)

  -- an uberblock in one label more
  pub uberblock_next : (n : ℕ) (slot : List ℕ) (u : Uberblock) → n < 4 → length slot ≡ 1024 → IsUberblock slot u → HoldUberblock size n u image
      → HoldUberblock size (n + 1) u (put (slot_place size n (slot_of u.group)) slot image)
  uberblock_next n slot u below_4 slot_long holds each =
      each_next (λ (l : List ℕ). IsUberblock l u) (λ (label : ℕ). slot_place size label (slot_of u.group)) 1024 (slot_inside (slot_of u.group) (slot-below u.group)) n slot below_4 slot_long holds each

  -- which leaves the configs
  pub uberblock_behind : (n : ℕ) (slot : List ℕ) (config : Config) → n < 4 → length slot ≡ 1024 → HoldConfig size 4 config image → HoldConfig size 4 config (put (slot_place size n 4) slot image)
  uberblock_behind n slot config below_4 slot_long each label below =
      subst (λ (l : List ℕ). IsConfigBlock l size config) (sym (part_stands (slot_place size n 4) (config_place size label) 1024 4096 slot fits slot_long (beside (cases_order n label)))) (each label below)
    where
      fits : slot_place size n 4 + length slot ≤ length image
      fits = omega (arith, (label-on_device size n is below_4).within, slot_long, long)

      beside : (n ≡ label) ⊎ ((n < label) ⊎ (label < n)) → Apart (slot_place size n 4) 1024 (config_place size label) 4096
      beside (inl same) = let at : label_place size n ≡ label_place size label = ap (label_place size) same in inr (omega (arith, at))
      beside (inr (inl less)) = inl (omega (arith, labels-apart size n label is less below))
      beside (inr (inr more)) = inr (omega (arith, labels-apart size label n is more below_4))

  -- and what is cleared
  pub uberblock_beside : (n : ℕ) (slot : List ℕ) → n < 4 → length slot ≡ 1024 → IsCleared size image → IsCleared size (put (slot_place size n 4) slot image)
  uberblock_beside n slot below_4 slot_long =
      label_beside n (slot_place size n 4) 1024 slot below_4 slot_long (slot_inside 4 (omega arith) n).0 (slot_inside 4 (omega arith) n).1 (λ i not_config not_slot here. not_slot here)
