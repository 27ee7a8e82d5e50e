use Rattle.read_commands.proofs.CheckedAll.{one_line}
use Rattle.read_commands.proofs.clients.all_checks.a_whole_pool_has_one_line.Goals as goal

pub returns : goal.returns
returns g c = λ zero keeps all empty. let (list, status, writes) = c.run_check_all.ensures.clean zero in one_line _ list (writes.found keeps) status writes.states (writes.labels keeps) all _ _ empty writes.writes
