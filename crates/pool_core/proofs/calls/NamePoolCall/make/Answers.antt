use Rattle.pool_core.proofs.MadeSteps.{name_step}
use Rattle.pool_core.proofs.calls.NamePoolCall.make.Goals as goal

pub returns : goal.returns
returns g c = name_step c.name.result c.name.ensures
