use Rattle.read_commands.proofs.PoolLines.{tank_shown}
use Rattle.read_commands.proofs.clients.a_show_begins_with_the_name.Goals as goal

pub returns : goal.returns
returns g c = λ zero keeps contents mounts tank empty. tank_shown _ _ _ _ keeps contents mounts tank empty (c.run_show.ensures.shown zero)
