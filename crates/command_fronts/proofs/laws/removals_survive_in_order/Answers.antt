use Rattle.command_fronts.proofs.CommandFronts.{removals_survive_in_order}
use Rattle.command_fronts.proofs.laws.removals_survive_in_order.Goals as goal

pub returns : goal.returns
returns g c = removals_survive_in_order
