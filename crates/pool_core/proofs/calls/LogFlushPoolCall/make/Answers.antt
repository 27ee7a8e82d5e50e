use Rattle.pool_core.proofs.LogSteps.{log_flush_step}
use Rattle.pool_core.proofs.calls.LogFlushPoolCall.make.Goals as goal

pub returns : goal.returns
returns g c = log_flush_step _ _ c.log_flush.ensures.tree _ c.log_flush.ensures.step c.log_flush.ensures.flushed c.log_flush.ensures.count
