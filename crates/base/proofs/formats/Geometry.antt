-- Where the parts of a pool lie: on the device, in whole sectors, and apart.
use Rattle.std.proofs.Common.{◌≡◌, ℕ, zero, suc, ◌+◌, ◌-◌, ◌*◌, ◌%◌, ◌<◌, ◌≤◌, inl, inr, arith}
use Rattle.std.proofs.lemmas.Bool.Decides.{nat_tests}
use Rattle.base.specs.disk.Calls.{IsOnDevice}
use Rattle.base.specs.formats.Geometry.{IsGeometry, IsWritable, block_area, block_count, block_address, block_size, label_place, config_place, slot_place, slot_of}

-- a device has at least 6 MiB and at most 1 GiB, and a multiple of 256 KiB
pub record IsSize (size : ℕ) : Type 0 where
  pub least : 6291456 ≤ size
  pub greatest : size ≤ 1073741824
  pub whole : size % 262144 ≡ 0

pub IsGeometry-IsSize : (size : ℕ) → IsGeometry size → IsSize size
IsGeometry-IsSize size g = record { least = grind (arith, nat_tests); greatest = grind (arith, nat_tests); whole = grind (arith, nat_tests) }

-- a label lies on the device, in whole sectors
pub label-on_device : (size label : ℕ) → IsGeometry size → label < 4 → IsOnDevice size (label_place size label) 262144
label-on_device size label g below = go label (IsGeometry-IsSize size g)
  where
    go : (k : ℕ) → IsSize size → IsOnDevice size (label_place size k) 262144
    go zero s = record { aligned = omega arith; whole = omega arith; within = omega (arith, s.least) }
    go (suc zero) s = record { aligned = omega arith; whole = omega arith; within = omega (arith, s.least) }
    go (suc (suc zero)) s = record { aligned = omega (arith, s.least, s.whole); whole = omega arith; within = omega (arith, s.least) }
    go (suc (suc (suc k))) s = record { aligned = omega (arith, s.least, s.whole); whole = omega arith; within = omega (arith, s.least) }

-- a group's slot is one of the 128 of an array
pub slot-below : (group : ℕ) → slot_of group < 128
slot-below group = omega arith

-- a slot is two sectors
pub slot-on_device : (size label slot : ℕ) → IsGeometry size → label < 4 → slot < 128 → IsOnDevice size (slot_place size label slot) 1024
slot-on_device size label slot g below in_array =
    let l = label-on_device size label g below in
    record { aligned = omega (arith, l.aligned); whole = omega arith; within = omega (arith, l.within, in_array) }

-- the blocks end where label 2 begins at the latest
pub blocks-end : (size : ℕ) → IsGeometry size → block_area + block_size * block_count size ≤ size - 524288
blocks-end size g = let s = IsGeometry-IsSize size g in omega (arith, s.least)

-- labels are apart, and the blocks lie between label 1 and label 2
pub labels-apart : (size k l : ℕ) → IsGeometry size → k < l → l < 4 → label_place size k + 262144 ≤ label_place size l
labels-apart size k l g less below = go k l less below (IsGeometry-IsSize size g)
  where
    go : (k l : ℕ) → k < l → l < 4 → IsSize size → label_place size k + 262144 ≤ label_place size l
    go zero zero less below s = absurd (omega arith)
    go zero (suc zero) less below s = omega arith
    go zero (suc (suc zero)) less below s = omega (arith, s.least)
    go zero (suc (suc (suc l))) less below s = omega (arith, s.least)
    go (suc zero) zero less below s = absurd (omega arith)
    go (suc zero) (suc zero) less below s = absurd (omega arith)
    go (suc zero) (suc (suc zero)) less below s = omega (arith, s.least)
    go (suc zero) (suc (suc (suc l))) less below s = omega (arith, s.least)
    go (suc (suc zero)) zero less below s = absurd (omega arith)
    go (suc (suc zero)) (suc zero) less below s = absurd (omega arith)
    go (suc (suc zero)) (suc (suc zero)) less below s = absurd (omega arith)
    go (suc (suc zero)) (suc (suc (suc l))) less below s = omega (arith, s.least)
    go (suc (suc (suc k))) l less below s = absurd (omega arith)

-- a config, a slot and a block are where a pool may write
pub config-writable : (size label : ℕ) → label < 4 → IsWritable size (config_place size label) 4096
config-writable size label below = inl (label, below, omega arith, omega arith)

pub slot-writable : (size label slot : ℕ) → label < 4 → slot < 128 → IsWritable size (slot_place size label slot) 1024
slot-writable size label slot below in_array = inl (label, below, omega arith, omega arith)

pub block-writable : (size k : ℕ) → k < block_count size → IsWritable size (block_address k) 4096
block-writable size k below = inr (omega arith, omega (arith, below))
