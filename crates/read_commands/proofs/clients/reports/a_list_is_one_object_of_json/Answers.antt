use Rattle.read_commands.proofs.ReportClients.{json_told}
use Rattle.read_commands.proofs.clients.reports.a_list_is_one_object_of_json.Goals as goal

pub returns : goal.returns
returns g c = λ zero keeps contents mounts alone empty. json_told c.args.scope _ _ _ _ keeps contents mounts empty alone (c.run_json_list.ensures.listed zero)
