use Rattle.throttle.proofs.ShownSums as sums
use Rattle.throttle.proofs.laws.syncs_are_shown.Goals as goal

pub returns : goal.returns
returns c = sums.syncs_are_shown
