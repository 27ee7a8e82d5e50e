use Rattle.pool_threads.proofs.FreePools.{finished_left}
use Rattle.pool_threads.proofs.laws.finished_pools_are_left.Goals as goal

pub returns : goal.returns
returns g c = finished_left
