use Rattle.command_fronts.proofs.CommandFronts.{puts_follow_commands}
use Rattle.command_fronts.proofs.laws.puts_follow_commands.Goals as goal

pub returns : goal.returns
returns g c = puts_follow_commands
