use Rattle.std.specs.Prelude.{codes}
use Rattle.commands.proofs.OneEntries.{two_named}
use Rattle.commands.proofs.clients.named_objects.a_put_of_a_name_is_one_durable_entry.Goals as goal

pub returns : goal.returns
returns g c = λ zero. let p = c.run_put_named.ensures.put zero in two_named g.D.SectorDevice c.args.device (codes "a") c.args.input.items c.requires (p.put, p.puts)
