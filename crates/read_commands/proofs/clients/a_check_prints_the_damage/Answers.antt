use Rattle.read_commands.proofs.Findings.{damage_printed}
use Rattle.read_commands.proofs.clients.a_check_prints_the_damage.Goals as goal

pub returns : goal.returns
returns g c = λ one keeps alone empty. damage_printed _ _ _ _ keeps alone empty (c.run_check.ensures.damaged one)
