use Rattle.base.proofs.seen_laws.groups_go_up.Goals as goal
use Rattle.base.proofs.steps.SeenGroups.{groups_go_up}

pub returns : goal.returns
returns c = groups_go_up
