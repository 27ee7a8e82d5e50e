use Rattle.commands.proofs.LeftClients.{not_one, one_found}
use Rattle.commands.proofs.clients.left_devices.a_byte_that_was_put_at_an_offset_is_found_after_a_crash.Goals as goal

pub returns : goal.returns
returns g c = λ zero keeps past was. one_found g.D.SectorDevice c.args.device c.put_on.result.1 keeps past was c.args.bytes.now c.requires (c.put_on.ensures.durable (not_one zero))
