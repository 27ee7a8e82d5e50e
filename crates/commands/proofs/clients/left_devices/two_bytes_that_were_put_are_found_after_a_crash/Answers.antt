use Rattle.commands.proofs.LeftClients.{not_one, two_found}
use Rattle.commands.proofs.clients.left_devices.two_bytes_that_were_put_are_found_after_a_crash.Goals as goal

pub returns : goal.returns
returns g c = λ zero keeps past was. two_found g.D.SectorDevice c.args.device c.put_on.result.1 keeps past was c.args.bytes.now c.requires (c.put_on.ensures.durable (not_one zero))
