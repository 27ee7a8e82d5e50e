use Rattle.fronts.proofs.DurableTransactions.{durable_transacts_have_all_before}
use Rattle.fronts.proofs.pools.durable_transacts_have_all_before.Goals as goal

pub returns : goal.returns
returns g c = durable_transacts_have_all_before
