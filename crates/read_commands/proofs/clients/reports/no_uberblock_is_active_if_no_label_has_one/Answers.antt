use Rattle.read_commands.proofs.ReportClients.{none_active_told}
use Rattle.read_commands.proofs.clients.reports.no_uberblock_is_active_if_no_label_has_one.Goals as goal

pub returns : goal.returns
returns g c = λ zero keeps none empty. none_active_told _ _ empty keeps none (c.run_labels.ensures.printed zero)
