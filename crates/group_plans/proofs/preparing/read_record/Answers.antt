use Rattle.std.proofs.Common.{◌∙◌}
use Rattle.base.proofs.tree.Strips.{record-low}
use Rattle.tree_blocks.specs.TreeObjects.{objects_of}
use Rattle.extents.specs.Tables.{patches_of}
use Rattle.group_plans.specs.Prepared.{number_of_record}
use Rattle.group_plans.proofs.RecordReads.{laid_record}
use Rattle.group_plans.proofs.preparing.read_record.Goals as goal

pub lay_on-requires-clause-index : goal.lay_on-requires-clause-index
lay_on-requires-clause-index g c = rw c.number.ensures (record-low c.args.place.strip c.args.place.index c.requires.strip c.requires.index)

pub returns-clause-exact : goal.returns-clause-exact
returns-clause-exact g c = λ keeps holds.
    laid_record (patches_of c.args.extents.now) (objects_of c.args.tree.now) c.args.place.id.0 (number_of_record c.args.place) c.read_below.new.into c.lay_on.new.into
    c.in_ok-read_below.ensures.size (c.lay_on.ensures.size ∙ c.in_ok-read_below.ensures.size) (rw c.number.ensures at c.lay_on.ensures.bytes) (c.in_ok-read_below.ensures.exact keeps holds)
