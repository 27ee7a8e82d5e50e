use Rattle.read_commands.proofs.PrintedFindings.{whole_as_json}
use Rattle.read_commands.proofs.clients.report_checks.a_whole_pool_has_no_label_to_name.Goals as goal

pub returns : goal.returns
returns g c = λ zero keeps all empty.
    let (list, status, prints) = c.run_json_check_all.ensures.clean zero in
    whole_as_json _ list (prints.found keeps) status prints.states (prints.labels keeps) all _ _ empty prints.writes
