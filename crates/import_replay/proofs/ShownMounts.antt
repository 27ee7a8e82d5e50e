-- The labels that an import wrote show the pool that it gives, each with its config.
use Rattle.std.proofs.Common.{◌≡◌, ℕ, ◌<◌, List, length, drop, refl, sym, subst}
use Rattle.base.specs.formats.Fields.{part}
use Rattle.base.specs.formats.Geometry.{IsGeometry, block_size, config_place}
use Rattle.base.specs.formats.Labels.{IsConfig}
use Rattle.base.specs.formats.Uberblocks.{IsActive}
use Rattle.base.proofs.stored.StoredImports.{new-configs, new-shows}
use Rattle.labels.specs.Configs.{IsConfigBlock}
use Rattle.contents.specs.ContentsShown.{contents_of}
use Rattle.mounted.specs.declared.mounted.Mounted.{Mounted}
use Rattle.import_replay.specs.ImportSyncs.{config_of_import, uberblock_of_import}
use Rattle.import_replay.specs.Labelled.{HoldConfig}
use Rattle.mounted.specs.ShownMounted.{shown_of_import}
use Rattle.import_replay.specs.ShownMounts.{LabelsShow}

module _ (now : List ℕ) (moment : ℕ) (m : Mounted) (long : length now ≡ m.geometry) (configs : HoldConfig m.geometry 4 (config_of_import m) now) where
  config_at : (label : ℕ) → label < 4 → IsConfig now label m.guid m.group.0 (contents_of m.contents).name
  config_at label below =
      let at : IsConfigBlock (part now (config_place (length now) label) block_size) (length now) (config_of_import m) =
      subst (λ (n : ℕ). IsConfigBlock (part now (config_place n label) block_size) n (config_of_import m)) (sym long) (configs label below) in
      record { payload = drop 64 (part now (config_place (length now) label) block_size); block = at.sealed; fields = at.fields }

  pub labels_show : IsGeometry (length now) → IsActive now (uberblock_of_import moment m) → LabelsShow now m
  labels_show geometry active = record {
    geometry = geometry;
    labels = λ created. new-shows now (shown_of_import m) (contents_of m.contents) created m.dirty_max (uberblock_of_import moment m) active config_at refl refl refl refl refl refl refl;
    configs = λ created. new-configs now (shown_of_import m) (contents_of m.contents) created m.dirty_max config_at;
  }
