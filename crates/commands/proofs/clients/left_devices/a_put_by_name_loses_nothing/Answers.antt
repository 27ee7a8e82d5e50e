use Rattle.commands.proofs.LeftClients.{lost_none}
use Rattle.commands.proofs.clients.left_devices.a_put_by_name_loses_nothing.Goals as goal

pub returns : goal.returns
returns g c = lost_none g.D.SectorDevice c.args.device c.put_named_on.result.1 c.put_named_on.ensures.still_held
