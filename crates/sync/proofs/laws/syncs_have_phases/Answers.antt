use Rattle.sync.proofs.UnderWay.{in_phase}
use Rattle.sync.proofs.laws.syncs_have_phases.Goals as goal

pub returns : goal.returns
returns c = in_phase
