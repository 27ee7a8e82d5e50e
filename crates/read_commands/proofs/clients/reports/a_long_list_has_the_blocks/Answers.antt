use Rattle.read_commands.proofs.ReportClients.{long_told}
use Rattle.read_commands.proofs.clients.reports.a_long_list_has_the_blocks.Goals as goal

pub returns : goal.returns
returns g c = λ zero keeps contents mounts alone empty. long_told c.args.scope _ _ _ _ keeps contents mounts empty alone (c.run_long_list.ensures.listed zero)
