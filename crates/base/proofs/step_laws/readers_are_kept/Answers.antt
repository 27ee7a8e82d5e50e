use Rattle.base.proofs.step_laws.readers_are_kept.Goals as goal
use Rattle.base.proofs.steps.KeptReaders.{readers_are_kept}

pub returns : goal.returns
returns c = readers_are_kept
