use Rattle.throttle.proofs.SumLaws as sums
use Rattle.throttle.proofs.laws.cancels_undo_admits.Goals as goal

pub returns : goal.returns
returns c = sums.cancels_undo_admits
