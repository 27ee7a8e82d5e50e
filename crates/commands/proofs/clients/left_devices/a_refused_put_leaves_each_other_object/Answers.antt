use Rattle.commands.proofs.LeftClients.{eight_stays}
use Rattle.commands.proofs.clients.left_devices.a_refused_put_leaves_each_other_object.Goals as goal

pub returns : goal.returns
returns g c = λ one keeps past was. eight_stays g.D.SectorDevice c.args.device c.put_on.result.1 keeps past was (c.put_on.ensures.still_held one)
