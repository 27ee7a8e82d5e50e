use Rattle.throttle.proofs.ShownSums as sums
use Rattle.throttle.proofs.laws.holding_groups_are_charged.Goals as goal

pub returns : goal.returns
returns c = sums.holding_groups_are_charged
