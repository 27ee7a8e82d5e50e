use Rattle.fronts.proofs.RisingCalls.{opened_pools_are_in_order}
use Rattle.fronts.proofs.shared.opened_pools_are_in_order.Goals as goal

pub returns : goal.returns
returns g c = opened_pools_are_in_order
