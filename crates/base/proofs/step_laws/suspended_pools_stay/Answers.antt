use Rattle.base.proofs.step_laws.suspended_pools_stay.Goals as goal
use Rattle.base.proofs.steps.SyncEnds.{suspended_pools_stay}

pub returns : goal.returns
returns c = suspended_pools_stay
