use Rattle.read_commands.proofs.ReportClients.{lines_told}
use Rattle.read_commands.proofs.clients.reports.the_lines_of_the_labels_begin_with_label_0.Goals as goal

pub returns : goal.returns
returns g c = λ zero empty. lines_told _ _ empty (c.run_labels.ensures.printed zero)
