use Rattle.read_commands.proofs.ReportClients.{labels_told}
use Rattle.read_commands.proofs.clients.reports.a_look_at_the_labels_begins_with_label_0.Goals as goal

pub returns : goal.returns
returns g c = λ zero empty. labels_told _ _ empty (c.run_json_labels.ensures.printed zero)
