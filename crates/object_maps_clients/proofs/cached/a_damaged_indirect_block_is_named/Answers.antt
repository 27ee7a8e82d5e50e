use Rattle.std.proofs.Common.{arith}
use Rattle.base.proofs.tree.Strips.{first-low}
use Rattle.object_maps_clients.proofs.cached.a_damaged_indirect_block_is_named.Goals as goal

pub read_indirect-requires-clause-number : goal.read_indirect-requires-clause-number
read_indirect-requires-clause-number g c = first-low 7 (omega arith)
