use Rattle.pool_core.proofs.crash.ExplainedPools.{kept_explained}
use Rattle.pool_core.proofs.laws.kept_pools_are_explained.Goals as goal

pub returns : goal.returns
returns c = kept_explained
