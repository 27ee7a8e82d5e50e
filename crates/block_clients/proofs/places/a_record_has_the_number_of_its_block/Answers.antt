use Rattle.std.proofs.Common.{arith}
use Rattle.base.proofs.tree.Strips.{indirect-count}
use Rattle.block_clients.proofs.places.a_record_has_the_number_of_its_block.Goals as goal

pub number-requires : goal.number-requires
number-requires c = (omega (arith, indirect-count), omega arith)
