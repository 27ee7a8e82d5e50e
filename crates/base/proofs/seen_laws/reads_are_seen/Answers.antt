use Rattle.base.proofs.seen_laws.reads_are_seen.Goals as goal
use Rattle.base.proofs.steps.SeenStates.{reads_are_seen}

pub returns : goal.returns
returns c = reads_are_seen
