use Rattle.sync.proofs.UnderWay.{holds_logs}
use Rattle.sync.proofs.laws.syncs_hold_logs.Goals as goal

pub returns : goal.returns
returns c = holds_logs
