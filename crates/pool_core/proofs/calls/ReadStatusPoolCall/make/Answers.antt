use Rattle.pool_core.proofs.MadeSteps.{status_step}
use Rattle.pool_core.proofs.calls.ReadStatusPoolCall.make.Goals as goal

pub returns : goal.returns
returns g c = status_step c.status.result c.status.ensures
