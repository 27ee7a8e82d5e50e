use Rattle.std.proofs.Common.{arith}
use Rattle.base.proofs.tree.Strips.{record-count}
use Rattle.extents.proofs.clients.a_written_byte_hides_the_one_below.Goals as goal

pub hides-requires-clause-index : goal.hides-requires-clause-index
hides-requires-clause-index c = omega (arith, record-count)
