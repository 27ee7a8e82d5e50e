-- Which config each label of a running pool has: that of the name so far; or, while a sync with a new name runs, the
-- new one in the labels that it has written, the even ones first.
use Rattle.std.specs.Prelude.{ℕ, ◌≡◌, ◌≤◌, ◌<◌, ◌==◌, List, [], length, Option, Some, None, Ok, unwrap_or, if◌then◌else◌}
use Rattle.base.specs.history.Contents.{Contents}
use Rattle.base.specs.history.History.{replay, entries_up_to}
use Rattle.base.specs.history.Past.{Past}
use Rattle.base.specs.formats.Fields.{part}
use Rattle.base.specs.formats.Geometry.{block_size, config_place}
use Rattle.base.specs.formats.Labels.{IsConfig}
use Rattle.base.specs.kept.SyncCalls.{NewTree, staged_labels}
use Rattle.base.specs.kept.Views.{IsConfigContent}
use Rattle.base.specs.steps.Shown.{Shown}

-- the place of a label in the order of the stages: 0, 2, 1, 3
abbrev pub stage_place : ℕ → ℕ
stage_place label = if label == 1 then 2 else (if label == 2 then 1 else label)

-- So many labels, in the order of the stages, have these bytes as their config. Each other label has a config of the
-- pool, of this group and with this name.
pub record HaveConfigs (now : List ℕ) (guid group : ℕ) (name new : List ℕ) (count : ℕ) : Type 0 where
  pub written : (label : ℕ) → label < 4 → stage_place label < count → part now (config_place (length now) label) block_size ≡ new
  pub left : (label : ℕ) → label < 4 → count ≤ stage_place label → IsConfig now label guid group name

-- the bytes of the config that the running sync writes, if it has label stages, and how many labels have it
abbrev pub written_config : Option NewTree → List ℕ
written_config None = []
written_config (Some new) = unwrap_or new.stages []

abbrev pub written_labels : Option NewTree → ℕ
written_labels None = 0
written_labels (Some new) = staged_labels new

-- Each label into which the running sync has written its config has that one. Each other label has a config with the
-- synced name, of a group up to the synced one.
pub record HoldConfigs (now : List ℕ) (s : Shown) (running : Option NewTree) (past : Past) : Type 0 where
  pub synced : Contents
  pub replayed : replay (entries_up_to s.line.synced past.entries) past.base ≡ Ok synced
  pub group : ℕ
  pub within : group ≤ s.line.synced
  pub have : HaveConfigs now s.guid group synced.name (written_config running) (written_labels running)

-- A sync without label stages leaves the name. With them its config is one of its group, with the new name.
abbrev pub WritesName : Option (List ℕ) → (size guid group : ℕ) → (before after : List ℕ) → Type 0
WritesName None size guid group before after = after ≡ before
WritesName (Some config) size guid group before after = IsConfigContent config size guid group after
