use Rattle.fronts.proofs.OrderlyCalls.{other_calls_take_orderly_turns}
use Rattle.fronts.proofs.shared.other_calls_take_orderly_turns.Goals as goal

pub returns : goal.returns
returns g c = other_calls_take_orderly_turns
