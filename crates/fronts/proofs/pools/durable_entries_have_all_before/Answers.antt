use Rattle.fronts.proofs.DurableTransactions.{durable_entries_have_all_before}
use Rattle.fronts.proofs.pools.durable_entries_have_all_before.Goals as goal

pub returns : goal.returns
returns c = durable_entries_have_all_before
