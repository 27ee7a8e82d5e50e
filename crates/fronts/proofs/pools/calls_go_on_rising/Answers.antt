use Rattle.fronts.proofs.RisingCalls.{calls_go_on_rising}
use Rattle.fronts.proofs.pools.calls_go_on_rising.Goals as goal

pub returns : goal.returns
returns g c = calls_go_on_rising
