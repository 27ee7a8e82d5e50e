use Rattle.base.proofs.step_laws.syncs_end_on_time.Goals as goal
use Rattle.base.proofs.steps.SyncEnds.{syncs_end_on_time}

pub returns : goal.returns
returns c = syncs_end_on_time
