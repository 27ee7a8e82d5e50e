use Rattle.std.proofs.Common.{arith}
use Rattle.base.proofs.tree.Strips.{record-count}
use Rattle.extents.specs.Tables.{patches_of}
use Rattle.object_maps_clients.proofs.SmallObjects.{untouched-shows}
use Rattle.object_maps_clients.proofs.changes.reads.an_untouched_object_hides_nothing.Goals as goal

pub hides-requires-clause-index : goal.hides-requires-clause-index
hides-requires-clause-index c = omega (arith, record-count)

pub returns : goal.returns
returns c = untouched-shows (patches_of c.args.extents.now 7) c.hides.result 5 c.requires c.hides.ensures
