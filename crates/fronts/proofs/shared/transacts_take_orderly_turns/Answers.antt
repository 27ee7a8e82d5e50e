use Rattle.fronts.proofs.OrderlyCalls.{transacts_take_orderly_turns}
use Rattle.fronts.proofs.shared.transacts_take_orderly_turns.Goals as goal

pub returns : goal.returns
returns g c = transacts_take_orderly_turns
