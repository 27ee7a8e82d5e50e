use Rattle.transactions.proofs.RisingRanges.{lock_ranges-rise}
use Rattle.transactions.proofs.laws.lock_ranges_rise.Goals as goal

pub returns : goal.returns
returns c = lock_ranges-rise
