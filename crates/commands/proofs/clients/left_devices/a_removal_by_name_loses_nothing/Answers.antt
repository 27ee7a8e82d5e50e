use Rattle.commands.proofs.LeftClients.{lost_none}
use Rattle.commands.proofs.clients.left_devices.a_removal_by_name_loses_nothing.Goals as goal

pub returns : goal.returns
returns g c = lost_none g.D.SectorDevice c.args.device c.remove_named_on.result.1 c.remove_named_on.ensures.still_held
