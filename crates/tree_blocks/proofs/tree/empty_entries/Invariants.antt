use Rattle.std.proofs.Common.{◌≡◌, ◌≤◌, vec_len, vec_capacity}
use Rattle.std.specs.Prelude.{All}
use Rattle.tree_blocks.specs.EmptyEntries.{IsEmptyEntry}
use Rattle.tree_blocks.proofs.tree.empty_entries.Given as goal

-- so many objects, all with no pointers, and the room for the others
abbrev pub invariant-loop-i : goal.invariant-loop-i
invariant-loop-i l = (vec_len l.entries ≡ l._i) × (5292 ≤ vec_capacity l.entries) × All IsEmptyEntry l.entries.items
