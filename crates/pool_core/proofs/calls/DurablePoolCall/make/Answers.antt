use Rattle.pool_core.proofs.MadeSteps.{durable_step}
use Rattle.pool_core.proofs.calls.DurablePoolCall.make.Goals as goal

pub returns : goal.returns
returns g c = durable_step c.args.self.receipt c.durable.result c.durable.ensures
