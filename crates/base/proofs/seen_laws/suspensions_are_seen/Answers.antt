use Rattle.base.proofs.seen_laws.suspensions_are_seen.Goals as goal
use Rattle.base.proofs.steps.SeenRefusals.{suspensions_are_seen}

pub returns : goal.returns
returns c = suspensions_are_seen
