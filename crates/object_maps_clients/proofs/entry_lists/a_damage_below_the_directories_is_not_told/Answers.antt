use Rattle.std.proofs.Common.{ℕ, List}
use Rattle.base.specs.disk.Disk.{bytes_of}
use Rattle.object_maps_clients.proofs.FoundEntries.{none_told_above}
use Rattle.object_maps_clients.proofs.entry_lists.a_damage_below_the_directories_is_not_told.Goals as goal

pub returns : goal.returns
returns g c =
    let image : List ℕ = bytes_of (g.D.SectorDevice.disk c.args.device.now).now in
    none_told_above image c.args.frame.now c.args.root c.requires.root c.requires.directories c.list_entries.result c.list_entries.ensures.cause (c.list_entries.ensures.damage c.requires.keeps)
