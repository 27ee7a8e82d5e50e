use Rattle.pool_core.proofs.MadeSteps.{commit_step}
use Rattle.pool_core.proofs.calls.CommitPoolCall.make.Goals as goal

pub returns : goal.returns
returns g c = commit_step c.commit.ensures.step c.commit.ensures.unmoved
