use Rattle.fronts.proofs.RisingSteps.{turns_keep_rising}
use Rattle.fronts.proofs.histories.turns_keep_rising.Goals as goal

pub returns : goal.returns
returns c = turns_keep_rising
