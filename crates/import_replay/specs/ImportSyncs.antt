-- What an import writes to the device, in which order, and what it leaves in the labels.
use Rattle.std.specs.Prelude.{ℕ, ◌≡◌, ◌≤◌, ◌+◌, All, Bool, List, [], length, map}
use Rattle.base.specs.tree.Mount.{IsChainOf, records_above}
use Rattle.base.specs.disk.Disk.{Disk, bytes_of, certain}
use Rattle.base.specs.formats.Chain.{LogPiece}
use Rattle.base.specs.formats.Labels.{Config}
use Rattle.base.specs.formats.Uberblocks.{Uberblock, IsActive}
use Rattle.base.specs.formats.Versions.{written_version}
use Rattle.base.specs.disk.DiskCalls.{after_disk_calls}
use Rattle.tree_blocks.specs.Pointers.{pointers_of}
use Rattle.sync.specs.Made.{BlocksWritten}
use Rattle.tree_plans.specs.Plans.{address_of}
use Rattle.tree_plans.specs.declared.planner.PlannedBlock.{PlannedBlock}
use Rattle.import_replay.specs.PlacedRecords.{placed_estimate}
use Rattle.import_replay.specs.Found.{HasFirstStage}
use Rattle.import_replay.specs.Labelled.{HoldLabels}
use Rattle.import_replay.specs.LabelSyncs.{ImportWrites, calls_of_import}
use Rattle.import_replay.specs.NextPools.{IsUnusedBlock}
use Rattle.import_replay.specs.TakenBlocks.{AreForEachPlace, AreLowestSpare}
use Rattle.mounted.specs.declared.mounted.Mounted.{Mounted}

-- the config that an import writes
abbrev pub config_of_import : Mounted → Config
config_of_import m = record { guid = m.guid; group = m.group.0; size = m.geometry; name = m.contents.name }

-- the uberblock that an import of this moment writes
abbrev pub uberblock_of_import : ℕ → Mounted → Uberblock
uberblock_of_import moment m = record {
  version = written_version;
  group = m.group.0;
  guid = m.guid;
  moment = moment;
  root = m.contents.tree.root;
  import_number = m.import_number;
  log_address = m.log_address;
  log_number = 0;
}

-- all that it writes, with these blocks
abbrev pub writes_of_import : ℕ → List PlannedBlock → Mounted → ImportWrites
writes_of_import moment blocks m = record { size = m.geometry; config = config_of_import m; u = uberblock_of_import moment m; blocks = blocks }

-- The disk after an import is what its calls make of the disk before, each answered Ok: a flush, and then just those of
-- a sync of these blocks. What was mounted, and is written, is of the active uberblock, four groups and an import
-- later. The even labels come first exactly if an odd one has the config that gives the image its name. The blocks are
-- none of the tree or the chain, and no more than the chain's records above the group are estimated at. They lie at the
-- lowest spare addresses, rising. There is one for each place that these records write, in the order of a sync, and the
-- tree that was mounted has it there. In the block area each of them stands then, and no other byte has changed.
pub record IsImportSynced (old new : Disk) (moment : ℕ) (m : Mounted) : Type 0 where
  pub u : Uberblock
  pub active : IsActive (bytes_of old.now) u
  pub guid : m.guid ≡ u.guid
  pub group : m.group.0 ≡ u.group + 4
  pub import_number : m.import_number ≡ u.import_number + 1
  pub even_first : Bool
  pub name : List ℕ
  pub first : HasFirstStage (bytes_of old.now) u.guid u.group name even_first
  pub chain : List LogPiece
  pub chain_is : IsChainOf (bytes_of old.now) u chain
  pub blocks : List PlannedBlock
  pub unused : All (IsUnusedBlock (bytes_of old.now) u chain) blocks
  pub few : length blocks ≤ placed_estimate (records_above u.group chain)
  pub lowest : AreLowestSpare (bytes_of old.now) u chain (map address_of blocks)
  pub each : AreForEachPlace (bytes_of old.now) u chain (pointers_of m.contents.tree) (map address_of blocks)
  pub synced : new ≡ after_disk_calls (calls_of_import (writes_of_import moment blocks m) even_first) (certain (bytes_of old.now) old)
  pub written : BlocksWritten (bytes_of old.now) m.geometry blocks (length blocks) (bytes_of new.now)

-- the labels hold what was mounted
abbrev pub IsImportLabelled : Disk → ℕ → Mounted → Type 0
IsImportLabelled disk moment m = HoldLabels m.geometry (config_of_import m) (uberblock_of_import moment m) (bytes_of disk.now)

-- all of this, certain and active
pub record IsImportWritten (old new : Disk) (moment : ℕ) (m : Mounted) : Type 0 where
  pub synced : IsImportSynced old new moment m
  pub labelled : IsImportLabelled new moment m
  pub settled : new.now.unflushed ≡ []
  pub active : IsActive (bytes_of new.now) (uberblock_of_import moment m)
