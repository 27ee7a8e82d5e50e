-- What was read of the labels of a device is so of its image: the configs, how many uberblocks each label has, and which
-- one is active.
use Rattle.std.specs.Prelude.{ℕ, zero, suc, ◌≡◌, ◌<◌, ◌+◌, ◌*◌, ◌⊎◌, List, Option, Some, None, length, max, slice_get}
use Rattle.base.specs.declared.names.Group.{Group}
use Rattle.base.specs.formats.Fields.{part}
use Rattle.base.specs.formats.Geometry.{slot_count, slot_place}
use Rattle.base.specs.formats.Uberblocks.{Uberblock, HasNoUberblock, IsActive, IsUberblock, slot_size}
use Rattle.labels.specs.Configs.{IsConfigBlock}
use Rattle.read_commands.specs.FoundLabels.{IsStateOf, config_bytes_at, state_of}
use Rattle.read_commands.specs.declared.label_lines.ConfigFound.{ConfigFound}
use Rattle.read_commands.specs.declared.label_lines.ConfigFound.TheVariants as found
use Rattle.read_commands.specs.declared.labels_read.Labels.{Labels}
use Rattle.read_commands.specs.declared.label_texts.Active.{Active}
use Rattle.read_commands.specs.declared.label_texts.Active.TheVariants as uberblock
use Rattle.uberblocks.specs.Rings.{HasNoneInRing, IsActiveInRing, IsRingOf, StandsInRing, array_size}

-- a block is this config of a device of this size, or it is none for this reason
abbrev pub IsConfigFound : List ℕ → ℕ → ConfigFound → Type 0
IsConfigFound block size (found.Config c) = IsConfigBlock block size c
IsConfigFound block size (found.OfSize other) = IsStateOf block size (state_of (found.OfSize other))
IsConfigFound block size found.Zeros = IsStateOf block size (state_of found.Zeros)
IsConfigFound block size found.Unchecked = IsStateOf block size (state_of found.Unchecked)

-- with a slot of these bytes there are so many uberblocks, of this highest group
abbrev pub IsCountedWith : List ℕ → ℕ → ℕ → ℕ → ℕ → Type 0
IsCountedWith bytes before top count highest =
    ((u : Uberblock) × IsUberblock bytes u × (count ≡ before + 1) × (highest ≡ max top u.group))
    ⊎ (((u : Uberblock) → IsUberblock bytes u → ⊥) × (count ≡ before) × (highest ≡ top))

-- so many of the first slots hold an uberblock, and this is the highest group of these, or 0
unfoldable pub AreCounted : (ℕ → List ℕ) → ℕ → ℕ → ℕ → Type 0
AreCounted slots zero count highest = (count ≡ 0) × (highest ≡ 0)
AreCounted slots (suc k) count highest = (before : ℕ) × (top : ℕ) × AreCounted slots k before top × IsCountedWith (slots k) before top count highest

-- the slots of a label: of the image, and of the arrays that were read
abbrev pub slots_of : List ℕ → ℕ → ℕ → List ℕ
slots_of image label slot = part image (slot_place (length image) label slot) slot_size

abbrev pub slots_read : List ℕ → ℕ → ℕ → List ℕ
slots_read ring label slot = part ring (array_size * label + slot_size * slot) slot_size

-- the active uberblock has this group, and this is the lowest label that has it; or there is none
abbrev pub IsActiveFound : List ℕ → Active → Type 0
IsActiveFound image uberblock.Missing = HasNoUberblock image
IsActiveFound image (uberblock.Unplaced group) = ⊥
IsActiveFound image (uberblock.Found group label) = (u : Uberblock) × (a : IsActive image u) × (u.group ≡ group.0) × (a.label ≡ label)

abbrev pub IsActiveRead : List ℕ → Active → Type 0
IsActiveRead ring uberblock.Missing = HasNoneInRing ring
IsActiveRead ring (uberblock.Unplaced group) = ⊥
IsActiveRead ring (uberblock.Found group label) = (u : Uberblock) × (a : IsActiveInRing ring u) × (u.group ≡ group.0) × (a.label ≡ label)

-- an uberblock of this group stands in a label
abbrev pub HasGroupAt : List ℕ → ℕ → Group → Type 0
HasGroupAt ring label group = (u : Uberblock) × StandsInRing ring label u × (u.group ≡ group.0)

-- what was found of a label besides its number
pub record LabelFound : Type 0 where
  pub config : ConfigFound
  pub count : ℕ
  pub highest : ℕ

-- so it is of a label of the image
pub record IsLabelFound (image : List ℕ) (label : ℕ) (l : LabelFound) : Type 0 where
  pub config : IsConfigFound (config_bytes_at image label) (length image) l.config
  pub uberblocks : AreCounted (slots_of image label) slot_count l.count l.highest

-- so it is of all four, and of the active uberblock
pub record AreLabelsFound (image : List ℕ) (zeroth first second third : LabelFound) (active : Active) : Type 0 where
  pub of_zeroth : IsLabelFound image 0 zeroth
  pub of_first : IsLabelFound image 1 first
  pub of_second : IsLabelFound image 2 second
  pub of_third : IsLabelFound image 3 third
  pub of_active : IsActiveFound image active

-- what was read in the places of the four configs
pub record AreConfigsFound (image : List ℕ) (configs : List ConfigFound) : Type 0 where
  pub count : length configs ≡ 4
  pub each : (label : ℕ) (f : ConfigFound) → slice_get configs label ≡ Some f → IsConfigFound (config_bytes_at image label) (length image) f

-- the uberblock arrays that were read
abbrev pub arrays_of : Labels → List ℕ
arrays_of labels = labels.ring.items

-- this was read of the image
pub record AreLabelsOf (image : List ℕ) (labels : Labels) : Type 0 where
  pub ring : IsRingOf (arrays_of labels) image
  pub configs : AreConfigsFound image labels.configs

-- this is what the labels that were read say of a label
pub record IsLabelRead (labels : Labels) (label : ℕ) (l : LabelFound) : Type 0 where
  pub config : (f : ConfigFound) → slice_get labels.configs label ≡ Some f → f ≡ l.config
  pub uberblocks : AreCounted (slots_read (arrays_of labels) label) slot_count l.count l.highest

-- so they say of all four, and of the active uberblock
pub record AreLabelsRead (labels : Labels) (zeroth first second third : LabelFound) (active : Active) : Type 0 where
  pub of_zeroth : IsLabelRead labels 0 zeroth
  pub of_first : IsLabelRead labels 1 first
  pub of_second : IsLabelRead labels 2 second
  pub of_third : IsLabelRead labels 3 third
  pub of_active : IsActiveRead (arrays_of labels) active
