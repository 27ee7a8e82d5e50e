use Rattle.std.proofs.Common.{arith}
use Rattle.base.proofs.tree.Strips.{indirect-count}
use Rattle.object_maps_clients.proofs.cached.a_damaged_block_is_named.Goals as goal

pub read_payload-requires-clause-place : goal.read_payload-requires-clause-place
read_payload-requires-clause-place g c = (omega (arith, indirect-count), omega arith)
