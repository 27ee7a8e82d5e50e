use Rattle.throttle.proofs.SumLaws as sums
use Rattle.throttle.proofs.laws.admits_are_entered.Goals as goal

pub returns : goal.returns
returns c = sums.admits_are_entered
