use Rattle.std.proofs.Common.{arith}
use Rattle.space_maps.proofs.clients.a_wrong_sum_of_counts_is_refused.Goals as goal

pub returns-in-Ok : goal.returns-in-Ok
returns-in-Ok c = absurd (omega (arith, c.in-Ok.ensures.holds.1, c.requires.sum, c.requires.count))
