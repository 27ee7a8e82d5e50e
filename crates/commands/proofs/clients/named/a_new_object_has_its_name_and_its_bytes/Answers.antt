use Rattle.commands.proofs.OneEntries.{seven_named}
use Rattle.commands.proofs.clients.named.a_new_object_has_its_name_and_its_bytes.Goals as goal

pub returns : goal.returns
returns c = seven_named c.new_names_are_written.ensures
