-- The name of a new pool, and whether the device that it is to be made on has a pool already.
use Rattle.std.specs.Prelude.{ℕ, ◌≡◌, ◌⊎◌, ◌<◌, if◌then◌else◌, Bool, false, true, codes, List, None, Option, Some}
use Rattle.std.specs.List.{list_any}
use Rattle.std.specs.Path.{path_file_stem}
use Rattle.base.specs.declared.error.PoolError.{PoolError}
use Rattle.base.specs.declared.error.PoolError.TheVariants.{NoMemory, Read}
use Rattle.base.specs.formats.Fields.{part}
use Rattle.base.specs.formats.Labels.{Config}
use Rattle.base.specs.formats.Names.{is_name}
use Rattle.base.specs.tree.Mount.{HasNoPool}
use Rattle.labels.specs.Configs.{IsConfigBlock}
use Rattle.read_commands.specs.FoundLabels.{HasConfig}
use Rattle.read_commands.specs.declared.label_states.ConfigState.{ConfigState}
use Rattle.read_commands.specs.declared.label_states.ConfigState.TheVariants.{OtherSize, Unchecked, Whole, Zeroed}
use Rattle.read_commands.specs.declared.label_states.LabelState.{LabelState}

-- the name of a pool in a file, by the file's own name without what follows its last point: that, if a pool may have it
abbrev pub name_by_stem : Option (List ℕ) → List ℕ
name_by_stem None = codes "pool"
name_by_stem (Some stem) = if is_name stem then stem else codes "pool"

abbrev pub name_of_file : List ℕ → List ℕ
name_of_file path = name_by_stem (path_file_stem path)

-- the name of a new pool: the one that is given, or that of its file
abbrev pub new_name : Option (List ℕ) → List ℕ → List ℕ
new_name None path = name_of_file path
new_name (Some name) path = name

-- whether a label has a config, be it for a device of another size
abbrev pub is_config : ConfigState → Bool
is_config Whole = true
is_config (OtherSize size) = true
is_config Zeroed = false
is_config Unchecked = false

abbrev pub some_config : List LabelState → Bool
some_config states = list_any (λ (s : LabelState). is_config s.config) states

-- no label of the image has a valid config
abbrev pub HasNoConfigs : List ℕ → Type 0
HasNoConfigs image = (label : ℕ) → label < 4 → HasConfig image label → ⊥

-- a search for a pool is refused so: it isn't known whether there is one
abbrev pub IsLookRefusal : PoolError → Type 0
IsLookRefusal e = (e ≡ NoMemory) ⊎ (e ≡ Read)

-- the image has no pool, and no label of one
abbrev pub IsFree : List ℕ → Type 0
IsFree image = HasNoPool image × HasNoConfigs image

-- The first label of the image has a config, be it for a device of another size. So it is if a pool's file was cut or
-- lengthened.
abbrev pub HasFirstConfig : List ℕ → Type 0
HasFirstConfig image = (size : ℕ) × (c : Config) × IsConfigBlock (part image 16384 4096) size c
