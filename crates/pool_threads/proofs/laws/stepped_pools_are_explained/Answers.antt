use Rattle.pool_threads.proofs.SafeTurns.{stepped_explained}
use Rattle.pool_threads.proofs.laws.stepped_pools_are_explained.Goals as goal

pub returns : goal.returns
returns c = stepped_explained
