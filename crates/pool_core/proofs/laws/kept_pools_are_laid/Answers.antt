use Rattle.pool_core.proofs.crash.SafeMoments.{kept_laid}
use Rattle.pool_core.proofs.laws.kept_pools_are_laid.Goals as goal

pub returns : goal.returns
returns c = kept_laid
