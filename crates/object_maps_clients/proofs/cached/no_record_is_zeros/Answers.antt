use Rattle.std.proofs.Common.{arith}
use Rattle.base.proofs.tree.Strips.{first-low}
use Rattle.object_maps_clients.proofs.cached.no_record_is_zeros.Goals as goal

pub read_part-requires-clause-number : goal.read_part-requires-clause-number
read_part-requires-clause-number g c = first-low 7 (omega arith)
