-- Where the slots and the configs of a device lie: within its labels, and apart from one another and from each block.
use Rattle.std.proofs.Common.{◌≡◌, ℕ, zero, suc, ◌+◌, ◌*◌, ◌<◌, ◌≤◌, arith, ◌⊎◌, inl, inr}
use Rattle.std.specs.Prelude.{◌≢◌}
use Rattle.std.proofs.lemmas.Bool.{cases_order}
use Rattle.base.specs.disk.Disk.{Apart}
use Rattle.base.specs.formats.Geometry.{block_area, block_size, block_count, block_address, label_place, config_place, slot_place, IsGeometry, IsBlockAddress}
use Rattle.base.proofs.formats.Geometry.{IsGeometry-IsSize, label-on_device, labels-apart, blocks-end}

-- so many bytes from a place of a label on lie on the device, before or after the block area
pub label-apart : (size label place n : ℕ) → IsGeometry size → label < 4 → label_place size label ≤ place → place + n ≤ label_place size label + 262144
    → (place + n ≤ size) × ((place + n ≤ block_area) ⊎ (block_area + block_size * block_count size ≤ place))
label-apart size label place n geometry below from to = (omega (arith, (label-on_device size label geometry below).within, to), side label from to)
  where
    side : (k : ℕ) → label_place size k ≤ place → place + n ≤ label_place size k + 262144 → (place + n ≤ block_area) ⊎ (block_area + block_size * block_count size ≤ place)
    side zero from to = inl (omega (arith, to))
    side (suc zero) from to = inl (omega (arith, to))
    side (suc (suc zero)) from to = inr (omega (arith, blocks-end size geometry, from))
    side (suc (suc (suc k))) from to = inr (omega (arith, blocks-end size geometry, (IsGeometry-IsSize size geometry).least, from))

-- and apart from each block
pub block-label_apart : (size label place n address : ℕ) → IsGeometry size → label < 4 → label_place size label ≤ place → place + n ≤ label_place size label + 262144
    → IsBlockAddress (block_count size) address → Apart address block_size place n
block-label_apart size label place n address geometry below from to is = side (label-apart size label place n geometry below from to).1
  where
    side : (place + n ≤ block_area) ⊎ (block_area + block_size * block_count size ≤ place) → Apart address block_size place n
    side (inl before) = let at : address ≡ block_address is.0 = is.2 in inr (omega (arith, at, before))
    side (inr behind) =
        let at : address ≡ block_address is.0 = is.2 in
        let in_area : is.0 < block_count size = is.1 in
        inl (omega (arith, at, in_area, behind))

-- two slots have no byte in common, of one label or of two
pub slots-apart : (size k i l j : ℕ) → IsGeometry size → k < 4 → i < 128 → l < 4 → j < 128 → (k ≢ l) ⊎ (i ≢ j) → Apart (slot_place size k i) 1024 (slot_place size l j) 1024
slots-apart size k i l j geometry k_in i_in l_in j_in differ = by_label (cases_order k l) differ
  where
    by_slot : (i ≡ j) ⊎ ((i < j) ⊎ (j < i)) → label_place size k ≡ label_place size l → i ≢ j → Apart (slot_place size k i) 1024 (slot_place size l j) 1024
    by_slot (inl same) places other = absurd (other same)
    by_slot (inr (inl less)) places other = inl (omega (arith, places, less))
    by_slot (inr (inr more)) places other = inr (omega (arith, places, more))

    by_label : (k ≡ l) ⊎ ((k < l) ⊎ (l < k)) → (k ≢ l) ⊎ (i ≢ j) → Apart (slot_place size k i) 1024 (slot_place size l j) 1024
    by_label (inl same) (inl other) = absurd (other same)
    by_label (inl same) (inr other) = by_slot (cases_order i j) (λ n. label_place size (same n)) other
    by_label (inr (inl less)) other = let f = labels-apart size k l geometry less l_in in inl (omega (arith, f, i_in))
    by_label (inr (inr more)) other = let f = labels-apart size l k geometry more k_in in inr (omega (arith, f, j_in))

-- nor have a slot and a config
pub slot-config_apart : (size k i l : ℕ) → IsGeometry size → k < 4 → i < 128 → l < 4 → Apart (slot_place size k i) 1024 (config_place size l) block_size
slot-config_apart size k i l geometry k_in i_in l_in = by_label (cases_order k l)
  where
    by_label : (k ≡ l) ⊎ ((k < l) ⊎ (l < k)) → Apart (slot_place size k i) 1024 (config_place size l) block_size
    by_label (inl same) = let places : label_place size k ≡ label_place size l = (λ n. label_place size (same n)) in inr (omega (arith, places))
    by_label (inr (inl less)) = let f = labels-apart size k l geometry less l_in in inl (omega (arith, f, i_in))
    by_label (inr (inr more)) = let f = labels-apart size l k geometry more k_in in inr (omega (arith, f))
