use Rattle.pool_core.proofs.crash.StoppedSteps.{stopped_safe}
use Rattle.pool_core.proofs.laws.stopped_steps_are_safe.Goals as goal

pub returns : goal.returns
returns c = stopped_safe
