-- What a create leaves on the disk.
use Rattle.std.specs.Prelude.{ℕ, ◌<◌, List, length}
use Rattle.base.specs.formats.Fields.{no_pointer}
use Rattle.base.specs.formats.Limits.{first_group}
use Rattle.base.specs.formats.Geometry.{block_count}
use Rattle.base.specs.formats.Uberblocks.{Uberblock, StandsIn, IsActive}
use Rattle.base.specs.formats.Versions.{written_version}
use Rattle.base.specs.formats.Labels.{Config, IsConfig}
use Rattle.base.specs.tree.Mount.{Mount, IsMounted}
use Rattle.base.specs.kept.Imports.{IsCreated}
use Rattle.import_replay.specs.Cleared.{IsCleared}

-- the image mounts a new pool of this name and guid
abbrev pub IsCreatedOn : List ℕ → List ℕ → ℕ → Type 0
IsCreatedOn image name guid = (m : Mount) × IsMounted image m × IsCreated name guid (block_count (length image)) m

-- the uberblock of a new pool: the version that is written, group 4, no root, no import, no log
abbrev pub first_uberblock : ℕ → ℕ → Uberblock
first_uberblock guid moment =
    record { version = written_version; group = first_group; guid = guid; moment = moment; root = no_pointer; import_number = 0; log_address = 0; log_number = 0 }

-- the config of a new pool, of the same group, on a device of so many bytes
abbrev pub first_config : List ℕ → ℕ → ℕ → Config
first_config name guid size = record { guid = guid; group = first_group; size = size; name = name }

-- all that a create writes: each label has this config and this uberblock, which is the active one, and zeros after its
-- boot header except for these, and all blocks are zeros
pub record IsNewPool (image : List ℕ) (name : List ℕ) (guid moment : ℕ) : Type 0 where
  pub configs : (label : ℕ) → label < 4 → IsConfig image label guid first_group name
  pub uberblocks : (label : ℕ) → label < 4 → StandsIn image label (first_uberblock guid moment)
  pub active : IsActive image (first_uberblock guid moment)
  pub cleared : IsCleared (length image) image
