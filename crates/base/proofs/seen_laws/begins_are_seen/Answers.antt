use Rattle.base.proofs.seen_laws.begins_are_seen.Goals as goal
use Rattle.base.proofs.steps.SeenStates.{begins_are_seen}

pub returns : goal.returns
returns c = begins_are_seen
