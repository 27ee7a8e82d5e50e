use Rattle.std.proofs.Common.{refl}
use Rattle.std.specs.Prelude.{codes}
use Rattle.scripts.proofs.Refusals.{good_create}
use Rattle.scripts.proofs.clients.a_good_create_is_refused_by_the_device.Goals as goal

pub returns : goal.returns
returns g c = good_create (codes "tank") 77 0 c.args.device c.create.result c.create.new.self c.requires refl c.create.ensures.creates
