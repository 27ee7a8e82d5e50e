-- How far the labels are written, on a device of so many bytes.
use Rattle.std.specs.Prelude.{ℕ, ◌≡◌, ◌≢◌, ◌<◌, List}
use Rattle.base.specs.formats.Fields.{part}
use Rattle.base.specs.formats.Geometry.{block_size, config_place, slot_place, slot_of}
use Rattle.base.specs.formats.Uberblocks.{Uberblock, IsUberblock, slot_size}
use Rattle.base.specs.formats.Labels.{Config}
use Rattle.labels.specs.Configs.{IsConfigBlock}
use Rattle.import_replay.specs.Cleared.{IsCleared}
use Rattle.import_replay.specs.Creations.{first_config, first_uberblock}

-- the labels below n hold this config
abbrev pub HoldConfig : ℕ → ℕ → Config → List ℕ → Type 0
HoldConfig size n config image = (label : ℕ) → label < n → IsConfigBlock (part image (config_place size label) block_size) size config

-- the labels below n have this uberblock in the slot of its group
abbrev pub HoldUberblock : ℕ → ℕ → Uberblock → List ℕ → Type 0
HoldUberblock size n u image = (label : ℕ) → label < n → IsUberblock (part image (slot_place size label (slot_of u.group)) slot_size) u

-- each label holds this config and this uberblock
abbrev pub HoldLabels : ℕ → Config → Uberblock → List ℕ → Type 0
HoldLabels size config u image = HoldConfig size 4 config image × HoldUberblock size 4 u image

-- a new pool is written
abbrev pub IsLabelled : ℕ → List ℕ → ℕ → ℕ → List ℕ → Type 0
IsLabelled size name guid moment image =
    IsCleared size image × HoldLabels size (first_config name guid size) (first_uberblock guid moment) image

-- in each label the slots but that of this group hold what they held before
abbrev pub HasOtherSlots : ℕ → ℕ → List ℕ → List ℕ → Type 0
HasOtherSlots size group before after =
    (label slot : ℕ) → label < 4 → slot < 128 → slot ≢ slot_of group → part after (slot_place size label slot) slot_size ≡ part before (slot_place size label slot) slot_size
