use Rattle.read_commands.proofs.ReportClients.{long_told}
use Rattle.read_commands.proofs.clients.reports.the_list_that_was_asked_for_is_written.Goals as goal

pub returns : goal.returns
returns g c = λ zero keeps contents mounts alone empty. long_told c.args.scope _ _ _ _ keeps contents mounts empty alone (c.run_opened.ensures.written zero)
