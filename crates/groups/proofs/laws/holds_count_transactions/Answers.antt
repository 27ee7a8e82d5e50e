use Rattle.groups.proofs.ExactHolds.{count_transactions}
use Rattle.groups.proofs.laws.holds_count_transactions.Goals as goal

pub returns : goal.returns
returns c = count_transactions
