use Rattle.read_commands.proofs.PoolLines.{tank_shown_fast}
use Rattle.read_commands.proofs.clients.a_fast_show_begins_with_the_name.Goals as goal

pub returns : goal.returns
returns g c = λ zero keeps m mounted tank empty. tank_shown_fast _ _ _ _ keeps m mounted tank empty (c.run_show_fast.ensures.shown zero)
