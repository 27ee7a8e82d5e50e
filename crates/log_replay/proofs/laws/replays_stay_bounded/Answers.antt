use Rattle.log_replay.proofs.BoundedReplays as bounded
use Rattle.log_replay.proofs.laws.replays_stay_bounded.Goals as goal

pub returns : goal.returns
returns c = bounded.replays_stay_bounded
