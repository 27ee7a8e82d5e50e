use Rattle.base.proofs.step_laws.pasts_grow.Goals as goal
use Rattle.base.proofs.steps.Additions.{runs_grow}

pub returns : goal.returns
returns c = runs_grow
