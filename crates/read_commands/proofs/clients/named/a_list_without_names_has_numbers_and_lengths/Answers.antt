use Rattle.read_commands.proofs.GotNames.{one_unnamed}
use Rattle.read_commands.proofs.clients.named.a_list_without_names_has_numbers_and_lengths.Goals as goal

pub returns : goal.returns
returns g c = λ zero keeps contents mounts are empty. one_unnamed c.args.scope _ _ _ _ keeps contents mounts empty (c.run_list_named-status.ensures.listed zero) are
