use Rattle.std.proofs.Common.{arith}
use Rattle.base.proofs.tree.Strips.{indirect-count}
use Rattle.block_clients.proofs.strips.a_number_tells_the_strip.Goals as goal

pub strip_of-requires : goal.strip_of-requires
strip_of-requires c = omega (arith, indirect-count)
