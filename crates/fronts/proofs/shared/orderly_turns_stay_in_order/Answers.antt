use Rattle.fronts.proofs.RisingCalls.{orderly_turns_stay_in_order}
use Rattle.fronts.proofs.shared.orderly_turns_stay_in_order.Goals as goal

pub returns : goal.returns
returns c = orderly_turns_stay_in_order
