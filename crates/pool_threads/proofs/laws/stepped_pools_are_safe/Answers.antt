use Rattle.pool_threads.proofs.SafeTurns.{stepped_safe}
use Rattle.pool_threads.proofs.laws.stepped_pools_are_safe.Goals as goal

pub returns : goal.returns
returns c = stepped_safe
