-- The pointers and the lengths of a tree once a sync is done.
use Rattle.std.specs.Prelude.{ℕ, List, Option}
use Rattle.std.specs.BTreeMap.{BTreeMap}
use Rattle.base.specs.declared.names.ObjectId.{ObjectId}
use Rattle.base.specs.declared.pointer.Pointer.{Pointer}
use Rattle.base.specs.tree.Places.{Place}
use Rattle.tree_blocks.specs.declared.tree.ObjectEntry.{ObjectEntry}
use Rattle.tree_blocks.specs.declared.tree.Tree.{Tree}
use Rattle.tree_blocks.specs.Lengths.{with_lengths}
use Rattle.tree_blocks.specs.TreeObjects.{lengths_of}
use Rattle.tree_blocks.specs.Pointers.{entry_among, pointers_at, with_entries}

-- the new root and directories, the new pointers of the objects that have new entries, and those of the tree for all
-- others
abbrev pub pointers_after : Pointer → List Pointer → BTreeMap ObjectId ObjectEntry → Tree → Place → Pointer
pointers_after root directories entries tree = with_entries (entry_among entries) (pointers_at root directories tree.entries.items)

-- the new lengths of the objects that have new entries, and those of the tree for all others
abbrev pub lengths_after : BTreeMap ObjectId ObjectEntry → Tree → ℕ → Option ℕ
lengths_after entries tree = with_lengths (entry_among entries) (lengths_of tree)
