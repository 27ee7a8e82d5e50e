use Rattle.read_commands.proofs.ReportClients.{total_told}
use Rattle.read_commands.proofs.clients.reports.the_blocks_of_8_mebibytes_have_3_and_a_half.Goals as goal

pub returns : goal.returns
returns g c = λ zero keeps long empty. total_told _ _ _ _ keeps long empty (c.run_space.ensures.measured zero)
