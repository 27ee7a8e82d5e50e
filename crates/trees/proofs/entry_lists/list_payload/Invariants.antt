use Rattle.std.proofs.Common.{◌≡◌, ◌+◌, ◌*◌, List, ℕ}
use Rattle.base.specs.declared.pointer.Pointer.{Pointer}
use Rattle.base.specs.formats.Blocks.{Frame}
use Rattle.base.specs.formats.Limits.{entry_count}
use Rattle.tree_blocks.specs.Forms.{IsEntryPayload}
use Rattle.trees.specs.EntryLists.{AreRising, listed_to}
use Rattle.trees.specs.Walking.{IsPayloadOf}
use Rattle.trees.proofs.entry_lists.list_payload.Given as goal

-- so many entries of the directory were listed
abbrev pub invariant-loop-index : goal.invariant-loop-index
invariant-loop-index l = record {
  form : (frame : Frame) → IsEntryPayload frame l.payload → AreRising 0 l.fn.list.items (entry_count * l.directory) → AreRising 0 l.list.items (entry_count * l.directory + l.index);
  listed : (image : List ℕ) (frame : Frame) (root : Pointer) → IsPayloadOf image frame root l.directory l.payload → l.fn.list.items ≡ listed_to image root (entry_count * l.directory)
      → l.list.items ≡ listed_to image root (entry_count * l.directory + l.index);
}
