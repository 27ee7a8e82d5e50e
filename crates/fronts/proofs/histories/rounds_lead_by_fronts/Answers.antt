use Rattle.fronts.proofs.Fronts.{rounds_lead_by_fronts}
use Rattle.fronts.proofs.histories.rounds_lead_by_fronts.Goals as goal

pub returns : goal.returns
returns c = rounds_lead_by_fronts
