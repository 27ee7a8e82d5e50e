use Rattle.transactions.specs.LockRanges.{lock_ranges}
use Rattle.transactions_clients.proofs.plans.writes_that_overlap_have_one_lock.Goals as goal

pub returns : goal.returns
unfolding lock_ranges
returns c = c.lock_ranges.ensures
