use Rattle.pool_core.proofs.MadeSteps.{sync_step}
use Rattle.pool_core.proofs.calls.SyncStepPoolCall.make.Goals as goal

pub returns : goal.returns
returns g c = sync_step {old = c.args.state.now} {new = c.sync_step.new.self} c.sync_step.result c.sync_step.ensures.step c.sync_step.ensures.leads c.sync_step.ensures.phases c.sync_step.ensures.called c.sync_step.ensures.count
