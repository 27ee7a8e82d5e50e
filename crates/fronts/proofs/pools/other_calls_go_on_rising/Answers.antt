use Rattle.fronts.proofs.RisingCalls.{other_calls_go_on_rising}
use Rattle.fronts.proofs.pools.other_calls_go_on_rising.Goals as goal

pub returns : goal.returns
returns g c = other_calls_go_on_rising
