use Rattle.pool_core.proofs.crash.LogSafe.{log_writes_safe}
use Rattle.pool_core.proofs.laws.log_writes_are_safe.Goals as goal

pub returns : goal.returns
returns c = log_writes_safe
