use Rattle.fronts.proofs.Fronts.{fronts_are_cuts}
use Rattle.fronts.proofs.histories.fronts_are_cuts.Goals as goal

pub returns : goal.returns
returns c = fronts_are_cuts
