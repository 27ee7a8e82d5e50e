use Rattle.pool_core.proofs.LogSteps.{log_write_step}
use Rattle.pool_core.proofs.calls.LogWritePoolCall.make.Goals as goal

pub returns : goal.returns
returns g c = log_write_step _ _ c.log_write.ensures.tree _ c.log_write.ensures.step c.log_write.ensures.wrote c.log_write.ensures.count
