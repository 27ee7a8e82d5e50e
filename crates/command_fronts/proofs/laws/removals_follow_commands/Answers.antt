use Rattle.command_fronts.proofs.CommandFronts.{removals_follow_commands}
use Rattle.command_fronts.proofs.laws.removals_follow_commands.Goals as goal

pub returns : goal.returns
returns g c = removals_follow_commands
