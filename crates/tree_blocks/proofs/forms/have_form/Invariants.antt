use Rattle.std.proofs.Common.{ℕ, ◌<◌}
use Rattle.base.specs.formats.Fields.{pointer_in}
use Rattle.base.specs.tree.Damages.{IsPointerForm}
use Rattle.tree_blocks.proofs.forms.have_form.Given as goal

abbrev pub invariant-loop-index : goal.invariant-loop-index
invariant-loop-index l = (d : ℕ) → d < l.index → IsPointerForm (pointer_in l.payload d)
