-- What the sync of a group writes into the labels.
use Rattle.std.specs.Prelude.{ℕ, ◌≡◌, List, Option, None, Some}
use Rattle.base.specs.formats.Geometry.{slot_of}
use Rattle.base.specs.formats.Labels.{Config}
use Rattle.base.specs.formats.Uberblocks.{Uberblock, IsUberblock}
use Rattle.labels.specs.Configs.{IsConfigBlock, config_block}
use Rattle.labels.specs.declared.stage.Stage.{Stage}
use Rattle.sync.specs.declared.run.LabelStages.{LabelStages}
use Rattle.sync.specs.declared.run.SyncRun.{SyncRun}

-- the config of a pool with this name, written in this group on a device of so many bytes
abbrev pub config_for : (guid group size : ℕ) → List ℕ → Config
config_for guid group size name = record { guid = guid; group = group; size = size; name = name }

-- the block of that config is one of a device of so many bytes
abbrev pub IsConfigFor : (guid group size : ℕ) → List ℕ → Type 0
IsConfigFor guid group size name = IsConfigBlock (config_block (config_for guid group size name)) size (config_for guid group size name)

-- The label stages of the sync of a group that gives the pool this name, if it gives one: the config of the group, this
-- pair of labels first.
abbrev pub stages_for : (guid group size : ℕ) → Stage → Option (List ℕ) → Option LabelStages
stages_for guid group size first None = None
stages_for guid group size first (Some name) = Some (record { config = config_block (config_for guid group size name); first = first })

-- a sync writes the bytes of this uberblock, in the slot of its group
pub record WritesUberblock (u : Uberblock) (run : SyncRun) : Type 0 where
  pub slot : run.slot ≡ slot_of u.group
  pub bytes : IsUberblock run.uberblock u
