use Rattle.commands.proofs.LeftClients.{none_found, not_one}
use Rattle.commands.proofs.clients.left_devices.an_object_that_was_removed_is_gone_after_a_crash.Goals as goal

pub returns : goal.returns
returns g c = λ zero keeps past was. none_found g.D.SectorDevice c.args.device c.remove_on.result.1 keeps past was (c.remove_on.ensures.durable (not_one zero))
