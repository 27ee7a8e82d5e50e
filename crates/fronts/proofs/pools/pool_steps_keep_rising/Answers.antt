use Rattle.fronts.proofs.FrontsBetween.{pool_steps_keep_rising}
use Rattle.fronts.proofs.pools.pool_steps_keep_rising.Goals as goal

pub returns : goal.returns
returns c = pool_steps_keep_rising
