use Rattle.pool_threads.proofs.FreePools.{free_explained}
use Rattle.pool_threads.proofs.laws.free_pools_are_explained.Goals as goal

pub returns : goal.returns
returns g c = free_explained
