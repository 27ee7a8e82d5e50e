-- The transactions of the unsynced groups, and the changes that their operations make.
use Rattle.std.specs.Prelude.{ℕ, ◌≡◌, ◌+◌, ◌<◌, ◌≤◌, All, None, List}
use Rattle.base.specs.history.Contents.{name_given_by_all}
use Rattle.base.specs.steps.Groups.{Line}
use Rattle.unsynced_extents.specs.declared.unsynced.UnsyncedExtents.{UnsyncedExtents}
use Rattle.extents.specs.Patches.{ArePatchesOf}
use Rattle.unsynced_extents.specs.Unsynced.{changes_at, name_at}
use Rattle.contents.specs.declared.synced_tree.SyncedTree.{SyncedTree}
use Rattle.contents.specs.ContentsShown.{contents_of}
use Rattle.tree_blocks.specs.ListedObjects.{AreWithin}
use Rattle.records.specs.declared.record.Record.{Record}
use Rattle.tree_plans.specs.Marks.{pending_ops}

-- each group after this synced one has, at its place, the changes of its operations
abbrev pub AreChangesOfUnsynced : ℕ → List Record → UnsyncedExtents → Type 0
AreChangesOfUnsynced synced unsynced changes = (place : ℕ) → place < 3 → ArePatchesOf (pending_ops (synced + 1 + place) unsynced) (changes_at changes place)

-- and gives the name that they give last
abbrev pub AreNamesOfUnsynced : ℕ → List Record → UnsyncedExtents → Type 0
AreNamesOfUnsynced synced unsynced changes = (place : ℕ) → place < 3 → name_at changes place ≡ name_given_by_all (pending_ops (synced + 1 + place) unsynced) None

-- The unsynced transactions are of groups up to the open one. The synced objects are within the limits, and the changes
-- and the name of each unsynced group are those of its operations.
pub record KeepsUnsynced (line : Line) (unsynced : List Record) (synced : SyncedTree) (changes : UnsyncedExtents) : Type 0 where
  pub open_or_before : All (λ (r : Record). r.group.0 ≤ line.open_group) unsynced
  pub within : AreWithin (contents_of synced).objects
  pub changed : AreChangesOfUnsynced line.synced unsynced changes
  pub named : AreNamesOfUnsynced line.synced unsynced changes
