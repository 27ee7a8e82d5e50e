use Rattle.std.proofs.Common.{ℕ, List, arith}
use Rattle.base.specs.disk.Disk.{bytes_of}
use Rattle.object_maps_clients.proofs.FoundEntries.{first_told}
use Rattle.object_maps_clients.proofs.entry_lists.the_first_damaged_directory_is_told.Goals as goal

pub unreachable-requires : goal.unreachable-requires
unreachable-requires g c = c.requires.damaged ((c.in-Ok.ensures.sound c.requires.keeps).1 5 (omega arith))

pub returns : goal.returns
returns g c =
    let image : List ℕ = bytes_of (g.D.SectorDevice.disk c.args.device.now).now in
    first_told image c.args.frame.now c.args.root c.requires.root c.requires.before c.requires.damaged c.in-Err.e c.in-Err.ensures.cause (c.in-Err.ensures.damage c.requires.keeps)
