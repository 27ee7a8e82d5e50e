use Rattle.pool_core.proofs.crash.StoppedSteps.{stopped_own}
use Rattle.pool_core.proofs.laws.stopped_steps_leave_their_own.Goals as goal

pub returns : goal.returns
returns c = stopped_own
