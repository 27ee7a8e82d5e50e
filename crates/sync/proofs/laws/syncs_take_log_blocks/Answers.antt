use Rattle.sync.proofs.LogWrites.{log_written}
use Rattle.sync.proofs.laws.syncs_take_log_blocks.Goals as goal

pub returns : goal.returns
returns c = log_written
