use Rattle.command_fronts.proofs.CommandFronts.{puts_survive_in_order}
use Rattle.command_fronts.proofs.laws.puts_survive_in_order.Goals as goal

pub returns : goal.returns
returns g c = puts_survive_in_order
