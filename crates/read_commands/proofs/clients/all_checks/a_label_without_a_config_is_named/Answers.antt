use Rattle.read_commands.proofs.CheckedAll.{label_named}
use Rattle.read_commands.proofs.clients.all_checks.a_label_without_a_config_is_named.Goals as goal

pub returns : goal.returns
returns g c = λ zero keeps first second third fourth empty.
    let (list, status, writes) = c.run_check_all.ensures.clean zero in
    label_named _ list (writes.found keeps) status writes.states (writes.labels keeps) first second third fourth _ _ empty writes.writes
