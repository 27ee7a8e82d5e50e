-- What an import mounts, as contracts see the pool that it gives.
use Rattle.std.specs.Prelude.{ℕ, ◌≡◌, ◌+◌, ◌<◌, ◌≤◌, false, List, length}
use Rattle.base.specs.formats.Versions.{written_version}
use Rattle.base.specs.formats.Blocks.{Frame}
use Rattle.base.specs.formats.Chain.{LogPiece}
use Rattle.base.specs.formats.Fields.{number_at, part}
use Rattle.base.specs.formats.Geometry.{IsBlockAddress, block_count, block_size}
use Rattle.base.specs.formats.Limits.{first_group, last_number}
use Rattle.base.specs.steps.Exact.{AreFree, IsBounded}
use Rattle.base.specs.steps.Tables.{AreTablesExplained}
use Rattle.base.specs.kept.Imports.{IsImportOf, is_past_last}
use Rattle.base.specs.tree.Mount.{IsChainOf, IsUsed}
use Rattle.base.specs.history.Past.{new_past}
use Rattle.base.specs.kept.PlacedTrees.{HoldsTree}
use Rattle.base.specs.tree.Places.{IsInTree}
use Rattle.base.specs.formats.Uberblocks.{Uberblock, IsActive}
use Rattle.contents.specs.ContentsShown.{contents_of}
use Rattle.tree_blocks.specs.Pointers.{pointers_of}
use Rattle.import_replay.specs.ImportRefusals.{CanImport}
use Rattle.import_replay.specs.NextPools.{PoolParts}
use Rattle.mounted.specs.declared.mounted.Mounted.{Mounted}
use Rattle.mounted.specs.ShownMounted.{shown_of_import}

-- the pool's frame, of the version that is written and its synced group
abbrev pub frame_of_import : Mounted → Frame
frame_of_import m = record { version = written_version; guid = m.guid; blocks = block_count m.geometry; group = m.group.0 }

-- the parts of what was mounted
abbrev pub parts_mounted : Mounted → PoolParts
parts_mounted m = record { contents = m.contents; free = m.free.free; log_address = m.log_address; records = m.records }

-- what was mounted on a device of so many bytes has these parts, of this active uberblock
pub record IsMountedFrom (size : ℕ) (u : Uberblock) (p : PoolParts) (dirty_max : ℕ) (m : Mounted) : Type 0 where
  pub geometry : m.geometry ≡ size
  pub guid : m.guid ≡ u.guid
  pub group : m.group.0 ≡ u.group + 4
  pub import_number : m.import_number ≡ u.import_number + 1
  pub within : is_past_last u.group u.import_number ≡ false
  pub parts : parts_mounted m ≡ p
  pub limit : m.dirty_max ≡ dirty_max

-- What an import gives stands on a device with these bytes: the device holds its tree, its log block is a block of the
-- area that the tree does not have, and the free blocks are all others.
pub record StandsOnDevice (now : List ℕ) (m : Mounted) : Type 0 where
  pub tree : HoldsTree now (frame_of_import m) (pointers_of m.contents.tree) (contents_of m.contents).objects
  pub log_block : IsBlockAddress (block_count m.geometry) m.log_address
  pub log_apart : IsInTree now m.contents.tree.root m.log_address → ⊥
  pub free : AreFree now (shown_of_import m)

-- whenever its pool was created, a past in which nothing happened explains it
abbrev pub IsExplainedAnew : Mounted → Type 0
IsExplainedAnew m = (created : ℕ) → AreTablesExplained (shown_of_import m) (new_past (contents_of m.contents) created m.dirty_max)

-- each block of the active tree and of its chain is as in the image
abbrev pub KeepsUsedBlocks : List ℕ → List ℕ → Type 0
KeepsUsedBlocks image now = (u : Uberblock) (chain : List LogPiece) → IsActive image u → IsChainOf image u chain → (address : ℕ) → IsUsed image u.root chain address
    → part now address block_size ≡ part image address block_size

-- each log block of the area stood in the image
abbrev pub WritesNoLogBlock : List ℕ → List ℕ → Type 0
WritesNoLogBlock image now = (address : ℕ) → IsBlockAddress (block_count (length image)) address → number_at (part now address block_size) 0 ≡ 6
    → part now address block_size ≡ part image address block_size

-- An import of an image that leaves these bytes: the pool that it gives is the one that the image mounts, with so many
-- records replayed, and it stands on the device. No block that the image's pool has was written, and no log block.
pub record IsImport (image now : List ℕ) (dirty_max : ℕ) (m : Mounted) : Type 0 where
  pub imported : IsImportOf image now dirty_max m.records (shown_of_import m)
  pub stands : StandsOnDevice now m
  pub size : length now ≡ length image
  pub kept : KeepsUsedBlocks image now
  pub no_log : WritesNoLogBlock image now

-- An import gives this on each device: a pool of this size and limit, both allowed, whose contents are within limits,
-- and which a past in which nothing happened explains, whenever it was created.
pub record IsMountedAnew (size dirty_max : ℕ) (m : Mounted) : Type 0 where
  pub geometry : m.geometry ≡ size
  pub limit : m.dirty_max ≡ dirty_max
  pub made : CanImport size dirty_max
  pub explained : (created : ℕ) → AreTablesExplained (shown_of_import m) (new_past (contents_of m.contents) created dirty_max)
  pub bounded : IsBounded (contents_of m.contents)
  pub group : (first_group ≤ m.group.0) × (m.group.0 < last_number)
