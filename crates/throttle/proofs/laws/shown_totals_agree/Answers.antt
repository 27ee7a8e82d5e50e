use Rattle.throttle.proofs.ShownSums as sums
use Rattle.throttle.proofs.laws.shown_totals_agree.Goals as goal

pub returns : goal.returns
returns c = sums.same_totals
