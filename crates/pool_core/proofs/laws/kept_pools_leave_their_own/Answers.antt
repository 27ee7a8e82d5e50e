use Rattle.pool_core.proofs.crash.SafeMoments.{kept_own}
use Rattle.pool_core.proofs.laws.kept_pools_leave_their_own.Goals as goal

pub returns : goal.returns
returns c = kept_own
