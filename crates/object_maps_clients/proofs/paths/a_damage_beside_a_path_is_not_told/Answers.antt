use Rattle.std.proofs.Common.{ℕ, List}
use Rattle.base.specs.disk.Disk.{bytes_of}
use Rattle.object_maps_clients.proofs.FoundEntries.{none_told}
use Rattle.object_maps_clients.proofs.paths.a_damage_beside_a_path_is_not_told.Goals as goal

pub returns : goal.returns
returns g c =
    let image : List ℕ = bytes_of (g.D.SectorDevice.disk c.args.device.now).now in
    none_told image c.args.frame.now c.args.root 130 c.requires.root c.requires.directory c.find_entry.result c.find_entry.ensures.cause
    (c.find_entry.ensures.damage c.requires.keeps)
