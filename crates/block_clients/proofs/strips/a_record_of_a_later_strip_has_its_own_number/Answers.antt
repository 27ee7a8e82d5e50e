use Rattle.std.proofs.Common.{arith}
use Rattle.base.proofs.tree.Strips.{indirect-count}
use Rattle.block_clients.proofs.strips.a_record_of_a_later_strip_has_its_own_number.Goals as goal

pub record_number-requires-clause-strip : goal.record_number-requires-clause-strip
record_number-requires-clause-strip c = omega (arith, indirect-count)
