use Rattle.fronts.proofs.DurableTransactions.{transacts_are_explained}
use Rattle.fronts.proofs.pools.transacts_are_explained.Goals as goal

pub returns : goal.returns
returns g c = transacts_are_explained
