use Rattle.std.proofs.Common.{ℕ, ◌<◌}
use Rattle.base.specs.formats.Fields.{pointer_in}
use Rattle.base.specs.tree.Damages.{IsRecordPointerForm}
use Rattle.base.specs.tree.Places.{strip_start}
use Rattle.tree_blocks.proofs.forms.are_strips.Given as goal

abbrev pub invariant-loop-index : goal.invariant-loop-index
invariant-loop-index l = (j : ℕ) → j < l.index → IsRecordPointerForm l.size (strip_start j) (pointer_in l.payload j)
