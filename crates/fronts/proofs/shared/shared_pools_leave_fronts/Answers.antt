use Rattle.fronts.proofs.RisingCalls.{shared_pools_leave_fronts}
use Rattle.fronts.proofs.shared.shared_pools_leave_fronts.Goals as goal

pub returns : goal.returns
returns g c = shared_pools_leave_fronts
