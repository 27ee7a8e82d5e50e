use Rattle.fronts.proofs.FrontsBetween.{stepped_pools_leave_fronts}
use Rattle.fronts.proofs.pools.stepped_pools_leave_fronts.Goals as goal

pub returns : goal.returns
returns c = stepped_pools_leave_fronts
