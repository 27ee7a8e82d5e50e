use Rattle.pool_threads.proofs.SafeTurns.{stopped_left}
use Rattle.pool_threads.proofs.laws.stopped_pools_are_left.Goals as goal

pub returns : goal.returns
returns c = stopped_left
