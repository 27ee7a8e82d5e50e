use Rattle.fronts.proofs.RisingCalls.{first_handles_rise}
use Rattle.fronts.proofs.pools.first_handles_rise.Goals as goal

pub returns : goal.returns
returns g c = first_handles_rise
