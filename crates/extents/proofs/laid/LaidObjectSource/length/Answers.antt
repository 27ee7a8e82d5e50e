use Rattle.extents.specs.Tables.{patches_of}
use Rattle.extents.proofs.LaidReads.{laid_length, laid_length_past}
use Rattle.extents.proofs.laid.LaidObjectSource.length.Goals as goal

pub returns-then-id-ge-OBJECT_COUNT : goal.returns-then-id-ge-OBJECT_COUNT
returns-then-id-ge-OBJECT_COUNT g c =
    laid_length_past (patches_of c.args.self.now.extents.now) (g.O.ObjectSource.objects c.args.self.now.below) c.args.id.0 c.if-id-ge-OBJECT_COUNT.true

pub returns : goal.returns
returns g c =
    laid_length (patches_of c.args.self.now.extents.now) (g.O.ObjectSource.objects c.args.self.now.below) c.args.id.0 c.length.result c.length_over.result
    c.if-id-ge-OBJECT_COUNT.false c.length.ensures c.length_over.ensures
