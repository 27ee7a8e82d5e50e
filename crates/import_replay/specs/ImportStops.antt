-- What an import that is refused leaves on the disk.
use Rattle.std.specs.Prelude.{ℕ, ◌≡◌, ◌+◌, ◌⊎◌, Bool, false, List}
use Rattle.base.specs.declared.error.PoolError.{PoolError}
use Rattle.base.specs.declared.error.PoolError.TheVariants.{Flush}
use Rattle.base.specs.declared.pointer.Pointer.{Pointer}
use Rattle.base.specs.disk.Disk.{Disk, bytes_of, certain, disk_size}
use Rattle.base.specs.kept.Imports.{is_past_last}
use Rattle.base.specs.tree.Mount.{Mounts}
use Rattle.base.specs.formats.Chain.{LogPiece}
use Rattle.base.specs.formats.Labels.{Config}
use Rattle.base.specs.formats.Versions.{written_version}
use Rattle.base.specs.formats.Uberblocks.{Uberblock}
use Rattle.base.specs.disk.DiskCalls.{IsStoppedIn}
use Rattle.contents.specs.ContentsShown.{contents_of}
use Rattle.tree_plans.specs.declared.planner.PlannedBlock.{PlannedBlock}
use Rattle.sync.specs.GroupLabels.{config_for}
use Rattle.import_replay.specs.Found.{HasFirstStage}
use Rattle.import_replay.specs.ImportRefusals.{HasSoundPool}
use Rattle.import_replay.specs.LabelSyncs.{ImportWrites, calls_of_import}
use Rattle.import_replay.specs.NextPools.{AreMadeOver, ArePartsFor, PoolParts}
use Rattle.import_replay.specs.declared.next_pool.NextPool.{NextPool}

-- the config that an import of this active uberblock and name writes, on a device of so many bytes
abbrev pub next_config : Uberblock → List ℕ → ℕ → Config
next_config u name size = config_for u.guid (u.group + 4) size name

-- and the uberblock, with this root, this moment and this first log block
abbrev pub next_uberblock : Uberblock → Pointer → ℕ → ℕ → Uberblock
next_uberblock u root moment log_address =
    record u { version = written_version; group = u.group + 4; moment = moment; root = root; import_number = u.import_number + 1; log_address = log_address; log_number = 0 }

-- all that it writes, with these blocks
abbrev pub next_writes : (size : ℕ) → Uberblock → List ℕ → Pointer → (moment log_address : ℕ) → List PlannedBlock → ImportWrites
next_writes size u name root moment log_address blocks = record { size = size; config = next_config u name size; u = next_uberblock u root moment log_address; blocks = blocks }

-- and for a pool that it is about to sync
abbrev pub writes_of_next : (size : ℕ) → Uberblock → (moment : ℕ) → NextPool → ImportWrites
writes_of_next size u moment next = next_writes size u next.contents.name next.contents.tree.root moment next.log_address next.blocks.items

-- The sync of an import stopped, after its first flush. The image has a pool, a sound tree, numbers that fit and room.
-- What the calls write is of these, with blocks that make the tree of what the image mounts, and a first log block.
pub record IsStoppedInLabels (old new : Disk) (moment : ℕ) (e : PoolError) : Type 0 where
  pub u : Uberblock
  pub name : List ℕ
  pub sound : HasSoundPool (bytes_of old.now) u name
  pub within : is_past_last u.group u.import_number ≡ false
  pub even_first : Bool
  pub first : HasFirstStage (bytes_of old.now) u.guid u.group name even_first
  pub chain : List LogPiece
  pub blocks : List PlannedBlock
  pub parts : PoolParts
  pub are : ArePartsFor (disk_size old) parts
  pub made : AreMadeOver (bytes_of old.now) u chain (disk_size old) blocks parts
  pub mounts : Mounts (bytes_of old.now) u chain (contents_of parts.contents)
  pub stopped : IsStoppedIn (calls_of_import (next_writes (disk_size old) u parts.contents.name parts.contents.tree.root moment parts.log_address blocks) even_first) e (certain (bytes_of old.now) old) new

-- the device refused a write or a flush of an import: its first flush, which left the disk as it was, or a call of its
-- sync
abbrev pub IsImportStopped : Disk → Disk → ℕ → PoolError → Type 0
IsImportStopped old new moment e = ((e ≡ Flush) × (new ≡ old)) ⊎ IsStoppedInLabels old new moment e
