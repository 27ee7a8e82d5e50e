use Rattle.throttle.proofs.SumLaws as sums
use Rattle.throttle.proofs.laws.totals_agree.Goals as goal

pub returns : goal.returns
returns c = sums.totals_agree
