use Rattle.read_commands.proofs.PrintedFindings.{damage_as_json}
use Rattle.read_commands.proofs.clients.report_checks.a_check_prints_the_damage.Goals as goal

pub returns : goal.returns
returns g c = λ one keeps alone empty. damage_as_json _ _ _ _ keeps alone empty (c.run_json_check.ensures.damaged one)
