use Rattle.base.proofs.step_laws.mounts_agree.Goals as goal
use Rattle.base.proofs.crash.OneMount.{mounts_agree}

pub returns : goal.returns
returns c = mounts_agree
