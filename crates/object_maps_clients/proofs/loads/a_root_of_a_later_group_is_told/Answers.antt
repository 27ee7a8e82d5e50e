use Rattle.base.specs.disk.Disk.{bytes_of}
use Rattle.base.specs.tree.Places.Place.{Root}
use Rattle.object_maps_clients.proofs.HeldTrees.{late-root, root-refusal, sound-held}
use Rattle.object_maps_clients.proofs.loads.a_root_of_a_later_group_is_told.Goals as goal

pub unreachable-requires : goal.unreachable-requires
unreachable-requires g c =
    late-root (bytes_of (g.D.SectorDevice.disk c.args.device.now).now) c.args.frame.now c.args.root c.requires.there c.requires.born
    (sound-held _ _ _ _ (c.in-Ok.ensures.tree c.requires.keeps) _ c.in-Ok.ensures.root Root tt)

pub returns : goal.returns
returns g c =
    root-refusal (bytes_of (g.D.SectorDevice.disk c.args.device.now).now) c.args.frame.now c.args.root c.in-Err.e
    (late-root (bytes_of (g.D.SectorDevice.disk c.args.device.now).now) c.args.frame.now c.args.root c.requires.there c.requires.born)
    c.in-Err.ensures.cause (c.in-Err.ensures.damage c.requires.keeps)
