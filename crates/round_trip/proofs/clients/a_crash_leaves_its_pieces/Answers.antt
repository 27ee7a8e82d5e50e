use Rattle.std.proofs.Math.Logic.{∥∥₁_map}
use Rattle.round_trip.proofs.clients.a_crash_leaves_its_pieces.Goals as goal

pub returns : goal.returns
returns c = λ past was. ∥∥₁_map (c.go_round.ensures.went past was) (λ g. (g.ended, g.end))
