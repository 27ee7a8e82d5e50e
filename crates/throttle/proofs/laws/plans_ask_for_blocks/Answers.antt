use Rattle.throttle.proofs.ShownSums as sums
use Rattle.throttle.proofs.laws.plans_ask_for_blocks.Goals as goal

pub returns : goal.returns
returns c = sums.plans_ask_for_blocks
