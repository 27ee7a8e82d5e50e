use Rattle.sync.proofs.LogFlushes.{log_flushed}
use Rattle.sync.proofs.laws.syncs_take_log_flushes.Goals as goal

pub returns : goal.returns
returns c = log_flushed
