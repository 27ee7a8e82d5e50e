use Rattle.base.proofs.seen_laws.unlocks_are_seen.Goals as goal
use Rattle.base.proofs.steps.SeenStates.{unlocks_are_seen}

pub returns : goal.returns
returns c = unlocks_are_seen
