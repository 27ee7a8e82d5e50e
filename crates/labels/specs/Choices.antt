-- Configs as they were read from the labels.
use Rattle.std.specs.Prelude.{ℕ, ◌≡◌, ◌⊎◌, List, length, Option, Some, None, slice_get}
use Rattle.base.specs.formats.Fields.{part}
use Rattle.base.specs.formats.Geometry.{block_size, config_place}
use Rattle.base.specs.formats.Labels.{Config}
use Rattle.labels.specs.Configs.{IsConfigBlock}

-- an odd label holds this config
abbrev pub IsKeptIn : List (Option Config) → Config → Type 0
IsKeptIn configs c = (slice_get configs 1 ≡ Some (Some c)) ⊎ (slice_get configs 3 ≡ Some (Some c))

-- this is what a label of the image holds: a config, or None if it holds none
abbrev pub IsRead : List ℕ → ℕ → Option Config → Type 0
IsRead image label (Some c) = IsConfigBlock (part image (config_place (length image) label) block_size) (length image) c
IsRead image label None = (c : Config) → IsConfigBlock (part image (config_place (length image) label) block_size) (length image) c → ⊥

-- these are what the four labels of the image hold
pub record AreRead (image : List ℕ) (configs : List (Option Config)) : Type 0 where
  pub count : length configs ≡ 4
  pub each : (label : ℕ) (config : Option Config) → slice_get configs label ≡ Some config → IsRead image label config
