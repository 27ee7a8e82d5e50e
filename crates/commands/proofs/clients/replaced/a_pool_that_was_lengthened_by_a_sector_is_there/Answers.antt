use Rattle.base.specs.disk.Disk.{bytes_of}
use Rattle.commands.specs.Replaced.{HasFirstConfig}
use Rattle.commands.proofs.Replaced.{found_if_there, no_geometry}
use Rattle.commands.proofs.clients.replaced.a_pool_that_was_lengthened_by_a_sector_is_there.Goals as goal

pub returns : goal.returns
returns g c = λ keeps config is.
    let image = bytes_of (g.D.SectorDevice.disk c.args.device.now).now in
    let size = g.D.SectorDevice.size c.args.device.now in
    found_if_there c.has_pool.result (HasFirstConfig image) (HasFirstConfig image → ⊥)
    (λ none. c.has_pool.ensures.no_label none keeps (no_geometry size c.requires).0 (no_geometry size c.requires).1) (λ there free. free there) (8388608, config, is)
