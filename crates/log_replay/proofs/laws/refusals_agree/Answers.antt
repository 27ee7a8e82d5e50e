use Rattle.log_replay.proofs.RefusedRecords as refused
use Rattle.log_replay.proofs.laws.refusals_agree.Goals as goal

pub returns : goal.returns
returns c = refused.refusals_agree
