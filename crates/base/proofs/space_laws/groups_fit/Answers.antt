use Rattle.base.proofs.space_laws.groups_fit.Goals as goal
use Rattle.base.proofs.steps.Reservations.{groups_fit}

pub returns : goal.returns
returns c = groups_fit
