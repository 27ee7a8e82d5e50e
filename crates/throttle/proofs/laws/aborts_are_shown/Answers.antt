use Rattle.throttle.proofs.ShownSums as sums
use Rattle.throttle.proofs.laws.aborts_are_shown.Goals as goal

pub returns : goal.returns
returns c = sums.aborts_are_shown
