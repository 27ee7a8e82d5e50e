use Rattle.sync.proofs.UnderWay.{keeps_phases}
use Rattle.sync.proofs.laws.syncs_keep_phases.Goals as goal

pub returns : goal.returns
returns c = keeps_phases
