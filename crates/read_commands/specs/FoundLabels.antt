-- What a check of all finds in the labels of a device, and what it prints of it.
use Rattle.std.specs.Prelude.{ℕ, ◌≡◌, ◌++◌, if◌then◌else◌, Bool, true, false, codes, List, [], ◌∷◌, Some, length, map, replicate, slice_get}
use Rattle.std.specs.Fmt.{decimal}
use Rattle.std.specs.List.{flat_map, list_any}
use Rattle.base.specs.formats.Fields.{part}
use Rattle.base.specs.formats.Geometry.{block_size, config_place}
use Rattle.base.specs.formats.Labels.{Config}
use Rattle.labels.specs.Configs.{IsConfigBlock}
use Rattle.read_commands.specs.declared.label_lines.ConfigFound.{ConfigFound}
use Rattle.read_commands.specs.declared.label_lines.ConfigFound.TheVariants as found
use Rattle.read_commands.specs.declared.label_states.ConfigState.{ConfigState}
use Rattle.read_commands.specs.declared.label_states.ConfigState.TheVariants.{OtherSize, Unchecked, Whole, Zeroed}
use Rattle.read_commands.specs.declared.label_states.LabelState.{LabelState}

-- why a block is no config: it is one for a device of another size, it is zeros, or anything else
abbrev pub IsReasonOf : List ℕ → ConfigState → Type 0
IsReasonOf block Whole = ⊥
IsReasonOf block (OtherSize size) = (c : Config) × IsConfigBlock block size c
IsReasonOf block Zeroed = block ≡ replicate (length block) 0
IsReasonOf block Unchecked = Unit {0}

-- so it is of the block in the place of a config, on a device of this size
abbrev pub IsStateOf : List ℕ → ℕ → ConfigState → Type 0
IsStateOf block size Whole = (c : Config) × IsConfigBlock block size c
IsStateOf block size state = ((c : Config) → IsConfigBlock block size c → ⊥) × IsReasonOf block state

-- the block in the place of a label's config
abbrev pub config_bytes_at : List ℕ → ℕ → List ℕ
config_bytes_at image label = part image (config_place (length image) label) block_size

-- a label of the image has a valid config
abbrev pub HasConfig : List ℕ → ℕ → Type 0
HasConfig image label = (c : Config) × IsConfigBlock (config_bytes_at image label) (length image) c

-- so it is of a label of the image
abbrev pub IsStateAt : List ℕ → LabelState → Type 0
IsStateAt image s = IsStateOf (config_bytes_at image s.label) (length image) s.config

-- so it is of all four
pub record AreLabelStates (image : List ℕ) (states : List LabelState) : Type 0 where
  pub labels : map (λ (s : LabelState). s.label) states ≡ 0 ∷ 1 ∷ 2 ∷ 3 ∷ []
  pub each : (k : ℕ) (s : LabelState) → slice_get states k ≡ Some s → IsStateAt image s

-- what was found, without the config
abbrev pub state_of : ConfigFound → ConfigState
state_of (found.Config c) = Whole
state_of (found.OfSize size) = OtherSize size
state_of found.Zeros = Zeroed
state_of found.Unchecked = Unchecked

abbrev pub is_whole : ConfigState → Bool
is_whole Whole = true
is_whole (OtherSize size) = false
is_whole Zeroed = false
is_whole Unchecked = false

-- what is printed of a label without a valid config, and a line for each
abbrev pub state_text : ℕ → List ℕ → List ℕ
state_text label reason = codes "label " ++ (decimal label ++ reason)

abbrev pub config_line : ℕ → ConfigState → List ℕ
config_line label Whole = []
config_line label (OtherSize size) = state_text label (codes " config none size " ++ (decimal size ++ codes "\n"))
config_line label Zeroed = state_text label (codes " config none zeros\n")
config_line label Unchecked = state_text label (codes " config none check\n")

abbrev pub state_line : LabelState → List ℕ
state_line s = config_line s.label s.config

abbrev pub state_lines : List LabelState → List ℕ
state_lines = flat_map state_line

-- whether some label has a valid config
abbrev pub some_whole : List LabelState → Bool
some_whole states = list_any (λ (s : LabelState). is_whole s.config) states

-- what is printed of four labels: nothing, if no label has a valid config
abbrev pub label_lines : List LabelState → List ℕ
label_lines states = if some_whole states then state_lines states else []
