use Rattle.base.proofs.step_laws.busy_is_unsound.Goals as goal
use Rattle.base.proofs.steps.BusyLocks.{busy_is_unsound}

pub returns : goal.returns
returns c = busy_is_unsound
