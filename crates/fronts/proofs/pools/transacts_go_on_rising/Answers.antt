use Rattle.fronts.proofs.RisingCalls.{transacts_go_on_rising}
use Rattle.fronts.proofs.pools.transacts_go_on_rising.Goals as goal

pub returns : goal.returns
returns g c = transacts_go_on_rising
