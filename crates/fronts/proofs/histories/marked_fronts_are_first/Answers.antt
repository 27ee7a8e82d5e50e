use Rattle.fronts.proofs.Fronts.{marked_fronts_are_first}
use Rattle.fronts.proofs.histories.marked_fronts_are_first.Goals as goal

pub returns : goal.returns
returns c = marked_fronts_are_first
