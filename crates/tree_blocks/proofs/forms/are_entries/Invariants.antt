use Rattle.std.proofs.Common.{ℕ, ◌<◌}
use Rattle.base.specs.formats.Fields.{entry_in}
use Rattle.base.specs.tree.Damages.{IsEntryForm}
use Rattle.tree_blocks.proofs.forms.are_entries.Given as goal

abbrev pub invariant-loop-index : goal.invariant-loop-index
invariant-loop-index l = (k : ℕ) → k < l.index → IsEntryForm l.frame (entry_in l.payload k)
