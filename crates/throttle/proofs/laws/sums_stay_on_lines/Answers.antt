use Rattle.throttle.proofs.ShownSums as sums
use Rattle.throttle.proofs.laws.sums_stay_on_lines.Goals as goal

pub returns : goal.returns
returns c = sums.sums_stay_on_lines
