use Rattle.base.proofs.seen_laws.durable_is_known.Goals as goal
use Rattle.base.proofs.steps.SeenGroups.{durable_is_known}

pub returns : goal.returns
returns c = durable_is_known
