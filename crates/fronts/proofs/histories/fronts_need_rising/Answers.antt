use Rattle.fronts.proofs.Fronts.{fronts_need_rising}
use Rattle.fronts.proofs.histories.fronts_need_rising.Goals as goal

pub returns : goal.returns
returns c = fronts_need_rising
