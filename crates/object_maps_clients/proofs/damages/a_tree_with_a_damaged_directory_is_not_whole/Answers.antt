use Rattle.std.proofs.Common.{arith, subst}
use Rattle.base.specs.tree.Places.Place.{Directory}
use Rattle.base.specs.disk.Disk.{bytes_of}
use Rattle.trees.specs.Examined.{IsExamined}
use Rattle.trees.specs.declared.damages.Examined.{Examined}
use Rattle.object_maps_clients.proofs.HeldTrees.{sound-held}
use Rattle.object_maps_clients.proofs.damages.a_tree_with_a_damaged_directory_is_not_whole.Goals as goal

pub unreachable-requires : goal.unreachable-requires
unreachable-requires g c =
    let is = subst (λ (e : Examined). IsExamined g.D.SectorDevice.keeps_model (bytes_of (g.D.SectorDevice.disk c.args.device.now).now) c.args.frame.now c.args.root e) c.in-Whole.is c.in_ok-examined.ensures.examined in
    c.requires.damaged (sound-held _ _ _ _ (is.held c.requires.keeps) _ is.root_is (Directory 5) (omega arith))
