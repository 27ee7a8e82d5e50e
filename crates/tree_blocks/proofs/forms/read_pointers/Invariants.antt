use Rattle.std.proofs.Common.{◌≡◌, ℕ, ◌<◌}
use Rattle.base.specs.formats.Fields.{pointer_in}
use Rattle.tree_blocks.specs.Pointers.{pointer_of_list}
use Rattle.tree_blocks.proofs.forms.read_pointers.Given as goal

abbrev pub invariant-loop-index : goal.invariant-loop-index
invariant-loop-index l = (k : ℕ) → k < l.index → pointer_of_list l.pointers k ≡ pointer_in l.payload k
