use Rattle.std.proofs.lemmas.Result.{on_ok_weaker}
use Rattle.read_commands.proofs.ReportClients.{space_told}
use Rattle.read_commands.proofs.clients.reports.the_space_of_a_new_pool_is_3_megabytes_and_a_half.Goals as goal

pub returns : goal.returns
returns g c = on_ok_weaker c.write_space.result (λ writes empty. space_told _ _ empty writes) c.write_space.ensures
