use Rattle.base.proofs.seen_laws.commits_are_seen.Goals as goal
use Rattle.base.proofs.steps.SeenStates.{commits_are_seen}

pub returns : goal.returns
returns c = commits_are_seen
