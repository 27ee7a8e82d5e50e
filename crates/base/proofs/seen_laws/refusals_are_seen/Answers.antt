use Rattle.base.proofs.seen_laws.refusals_are_seen.Goals as goal
use Rattle.base.proofs.steps.SeenRefusals.{refusals_are_seen}

pub returns : goal.returns
returns c = refusals_are_seen
