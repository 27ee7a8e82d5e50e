use Rattle.commands.proofs.LeftClients.{new_found, not_one}
use Rattle.commands.proofs.clients.left_devices.a_new_pool_is_found_after_a_crash.Goals as goal

pub returns-in-Ok : goal.returns-in-Ok
returns-in-Ok g c = λ zero keeps. new_found g.D.SectorDevice c.in-Ok.pool.name _ c.in-Ok.pool.guid c.in-Ok.pool.moment c.args.device c.create_on.result.1 c.in-Ok.ensures.given.0 keeps (c.create_on.ensures.made (not_one zero))
