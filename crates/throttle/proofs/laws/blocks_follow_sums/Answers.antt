use Rattle.throttle.proofs.ShownSums as sums
use Rattle.throttle.proofs.laws.blocks_follow_sums.Goals as goal

pub returns : goal.returns
returns c = sums.blocks_follow_sums
