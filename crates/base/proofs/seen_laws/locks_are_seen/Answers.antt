use Rattle.base.proofs.seen_laws.locks_are_seen.Goals as goal
use Rattle.base.proofs.steps.SeenStates.{locks_are_seen}

pub returns : goal.returns
returns c = locks_are_seen
