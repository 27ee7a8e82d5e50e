use Rattle.fronts.proofs.Fronts.{cuts_are_fronts}
use Rattle.fronts.proofs.histories.cuts_are_fronts.Goals as goal

pub returns : goal.returns
returns c = cuts_are_fronts
