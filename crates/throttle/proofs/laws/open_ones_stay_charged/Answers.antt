use Rattle.throttle.proofs.OpenCharges.{stay_charged}
use Rattle.throttle.proofs.laws.open_ones_stay_charged.Goals as goal

pub returns : goal.returns
returns c = stay_charged
