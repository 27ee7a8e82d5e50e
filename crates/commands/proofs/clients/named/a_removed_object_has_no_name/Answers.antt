use Rattle.commands.proofs.OneEntries.{seven_unnamed}
use Rattle.commands.proofs.clients.named.a_removed_object_has_no_name.Goals as goal

pub returns : goal.returns
returns c = seven_unnamed c.removed_names_are_gone.ensures
