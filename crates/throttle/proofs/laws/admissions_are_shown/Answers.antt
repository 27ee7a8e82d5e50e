use Rattle.throttle.proofs.ShownSums as sums
use Rattle.throttle.proofs.laws.admissions_are_shown.Goals as goal

pub returns : goal.returns
returns c = sums.admissions_are_shown
