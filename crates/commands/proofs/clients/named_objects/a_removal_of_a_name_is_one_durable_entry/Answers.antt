use Rattle.std.specs.Prelude.{codes}
use Rattle.commands.proofs.OneEntries.{one_removed}
use Rattle.commands.proofs.clients.named_objects.a_removal_of_a_name_is_one_durable_entry.Goals as goal

pub returns : goal.returns
returns g c = λ zero. let r = c.run_remove_named.ensures.removed zero in one_removed g.D.SectorDevice c.args.device (codes "a") (r.0, r.1)
