use Rattle.fronts.proofs.RisingSteps.{steps_keep_rising}
use Rattle.fronts.proofs.histories.steps_keep_rising.Goals as goal

pub returns : goal.returns
returns c = steps_keep_rising
