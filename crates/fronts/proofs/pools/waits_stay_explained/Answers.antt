use Rattle.fronts.proofs.DurableTransactions.{waits_stay_explained}
use Rattle.fronts.proofs.pools.waits_stay_explained.Goals as goal

pub returns : goal.returns
returns g c = waits_stay_explained
