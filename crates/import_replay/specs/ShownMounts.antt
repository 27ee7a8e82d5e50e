-- When the labels show the pool that an import gives, and have its config.
use Rattle.std.specs.Prelude.{ℕ, List, None, length}
use Rattle.base.specs.formats.Geometry.{IsGeometry}
use Rattle.base.specs.history.Past.{new_past}
use Rattle.base.specs.kept.LabelConfigs.{HoldConfigs}
use Rattle.base.specs.kept.ShownLabels.{ShowsSynced}
use Rattle.contents.specs.ContentsShown.{contents_of}
use Rattle.mounted.specs.ShownMounted.{shown_of_import}
use Rattle.mounted.specs.declared.mounted.Mounted.{Mounted}

-- The bytes are those of a pool's device. Their labels show the import's group, and each has a config with its name,
-- with a past in which nothing happened, whenever the pool was created.
pub record LabelsShow (now : List ℕ) (m : Mounted) : Type 0 where
  pub geometry : IsGeometry (length now)
  pub labels : (created : ℕ) → ShowsSynced now (shown_of_import m) (new_past (contents_of m.contents) created m.dirty_max)
  pub configs : (created : ℕ) → HoldConfigs now (shown_of_import m) None (new_past (contents_of m.contents) created m.dirty_max)
