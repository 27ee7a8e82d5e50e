use Rattle.read_commands.proofs.ReportClients.{json_named}
use Rattle.read_commands.proofs.clients.reports.a_report_of_a_pool_begins_with_its_name.Goals as goal

pub returns : goal.returns
returns g c = λ zero keeps contents mounts tank empty. json_named _ _ _ _ keeps contents mounts empty tank (c.run_json_show.ensures.shown zero)
