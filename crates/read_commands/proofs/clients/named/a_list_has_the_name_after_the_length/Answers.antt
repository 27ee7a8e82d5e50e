use Rattle.read_commands.proofs.GotNames.{two_named}
use Rattle.read_commands.proofs.clients.named.a_list_has_the_name_after_the_length.Goals as goal

pub returns : goal.returns
returns g c = λ zero keeps contents mounts are size named empty. two_named c.args.scope _ _ _ _ keeps contents mounts empty (c.run_list_named-status.ensures.listed zero) are size named
