use Rattle.pool_core.proofs.crash.LogSafe.{log_flushes_safe}
use Rattle.pool_core.proofs.laws.log_flushes_are_safe.Goals as goal

pub returns : goal.returns
returns c = log_flushes_safe
