use Rattle.base.proofs.seen_laws.refusals_suspend.Goals as goal
use Rattle.base.proofs.steps.SeenRefusals.{refusals_suspend}

pub returns : goal.returns
returns c = refusals_suspend
