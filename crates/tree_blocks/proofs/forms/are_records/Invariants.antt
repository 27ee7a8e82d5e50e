use Rattle.std.proofs.Common.{ℕ, ◌<◌}
use Rattle.base.specs.formats.Fields.{pointer_in}
use Rattle.base.specs.tree.Damages.{IsRecordPointerForm}
use Rattle.base.specs.tree.Places.{record_start}
use Rattle.tree_blocks.proofs.forms.are_records.Given as goal

abbrev pub invariant-loop-index : goal.invariant-loop-index
invariant-loop-index l = (k : ℕ) → k < l.index → IsRecordPointerForm l.size (record_start l.number k) (pointer_in l.payload k)
