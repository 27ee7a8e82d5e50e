use Rattle.base.proofs.seen_laws.contents_are_between.Goals as goal
use Rattle.base.proofs.steps.SeenStates.{contents_are_between}

pub returns : goal.returns
returns c = contents_are_between
