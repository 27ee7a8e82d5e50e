use Rattle.base.specs.disk.Disk.{bytes_of}
use Rattle.commands.specs.Replaced.{IsFree}
use Rattle.commands.proofs.Replaced.{damaged_there, found_if_there}
use Rattle.commands.proofs.clients.replaced.a_damaged_pool_is_there.Goals as goal

pub returns : goal.returns
returns g c = λ keeps kind address damaged.
    let image = bytes_of (g.D.SectorDevice.disk c.args.device.now).now in
    found_if_there c.has_pool.result (Unit {0}) (IsFree image) (λ none. c.has_pool.ensures.free none keeps c.requires) (λ there free. damaged_there image kind address damaged free.0) tt
