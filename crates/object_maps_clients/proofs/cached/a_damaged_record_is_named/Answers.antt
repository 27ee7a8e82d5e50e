use Rattle.std.proofs.Common.{arith}
use Rattle.base.proofs.tree.Strips.{first-low}
use Rattle.object_maps_clients.proofs.cached.a_damaged_record_is_named.Goals as goal

pub read_part-requires-clause-number : goal.read_part-requires-clause-number
read_part-requires-clause-number g c = first-low 7 (omega arith)
