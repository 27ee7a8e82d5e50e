use Rattle.base.proofs.space_laws.syncs_fit.Goals as goal
use Rattle.base.proofs.tree.Estimates.{syncs_fit}

pub returns : goal.returns
returns c = syncs_fit
