use Rattle.base.proofs.step_laws.pasts_are_told.Goals as goal
use Rattle.base.proofs.steps.Additions.{told_past}

pub returns : goal.returns
returns c = told_past ⊥
