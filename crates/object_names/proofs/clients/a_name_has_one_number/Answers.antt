use Rattle.object_names.proofs.NameClients.{found_some}
use Rattle.object_names.proofs.clients.a_name_has_one_number.Goals as goal

pub returns : goal.returns
returns c = found_some c.args.table.now c.args.name.now 5 c.find.result c.find.ensures.only c.find.ensures.none c.requires
