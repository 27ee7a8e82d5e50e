use Rattle.fronts.proofs.RisingCalls.{transactions_keep_rising}
use Rattle.fronts.proofs.pools.transactions_keep_rising.Goals as goal

pub returns : goal.returns
returns c = transactions_keep_rising
