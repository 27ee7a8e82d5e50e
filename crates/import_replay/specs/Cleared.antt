-- What of a new pool's device is zeros, on a device of so many bytes.
use Rattle.std.specs.Prelude.{ℕ, ◌≡◌, ◌<◌, ◌+◌, ◌*◌, List, slice_index, replicate}
use Rattle.base.specs.formats.Limits.{first_group}
use Rattle.base.specs.formats.Geometry.{block_area, block_size, block_count, label_place, config_place, slot_place, slot_of}
use Rattle.base.specs.disk.Disk.{IsInRange}
use Rattle.base.specs.formats.Uberblocks.{slot_size}

-- so many zeros
unfoldable pub zeros : ℕ → List ℕ
zeros n = replicate n 0

-- a byte of a label after its boot header
abbrev pub IsInTail : ℕ → ℕ → ℕ → Type 0
IsInTail size label i = IsInRange (label_place size label + 16384) 245760 i

-- a byte of its config, and of the slot that the first uberblock has
abbrev pub IsInConfig : ℕ → ℕ → ℕ → Type 0
IsInConfig size label i = IsInRange (config_place size label) block_size i

abbrev pub IsInFirstSlot : ℕ → ℕ → ℕ → Type 0
IsInFirstSlot size label i = IsInRange (slot_place size label (slot_of first_group)) slot_size i

-- the labels below n are zeros there, except for the config and that slot
abbrev pub AreTailsCleared : ℕ → ℕ → List ℕ → Type 0
AreTailsCleared size n image =
    (label i : ℕ) → label < n → IsInTail size label i → (IsInConfig size label i → ⊥) → (IsInFirstSlot size label i → ⊥) → slice_index image i ≡ 0

-- the blocks below n are zeros
abbrev pub AreBlocksCleared : ℕ → List ℕ → Type 0
AreBlocksCleared n image = (i : ℕ) → IsInRange block_area (block_size * n) i → slice_index image i ≡ 0

-- all labels and all blocks
abbrev pub IsCleared : ℕ → List ℕ → Type 0
IsCleared size image = AreTailsCleared size 4 image × AreBlocksCleared (block_count size) image
