use Rattle.throttle.proofs.ShownSums as sums
use Rattle.throttle.proofs.laws.new_sums_are_on_lines.Goals as goal

pub returns : goal.returns
returns c = sums.new_sums_are_on_lines
