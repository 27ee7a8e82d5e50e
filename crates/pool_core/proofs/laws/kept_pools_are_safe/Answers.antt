use Rattle.pool_core.proofs.crash.SafeMoments.{kept_safe}
use Rattle.pool_core.proofs.laws.kept_pools_are_safe.Goals as goal

pub returns : goal.returns
returns c = kept_safe
