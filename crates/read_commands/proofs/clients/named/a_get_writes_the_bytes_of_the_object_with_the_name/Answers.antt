use Rattle.read_commands.proofs.GotNames.{two_bytes_named}
use Rattle.read_commands.proofs.clients.named.a_get_writes_the_bytes_of_the_object_with_the_name.Goals as goal

pub returns : goal.returns
returns g c = λ zero keeps contents mounts named there empty. two_bytes_named c.args.scope _ _ _ _ _ keeps contents mounts named there empty (c.run_get_named-status.ensures.written zero)
