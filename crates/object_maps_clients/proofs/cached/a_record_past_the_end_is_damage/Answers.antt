use Rattle.std.proofs.Common.{arith}
use Rattle.base.proofs.tree.Strips.{first-low}
use Rattle.object_maps_clients.proofs.cached.a_record_past_the_end_is_damage.Goals as goal

pub record_pointer-requires-clause-number : goal.record_pointer-requires-clause-number
record_pointer-requires-clause-number c = first-low 7 (omega arith)
