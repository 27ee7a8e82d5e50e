use Rattle.std.proofs.Common.{arith}
use Rattle.base.specs.tree.Places.Place.{Directory}
use Rattle.object_maps_clients.proofs.HeldTrees.{sound-held}
use Rattle.object_maps_clients.proofs.loads.a_damaged_directory_is_not_loaded.Goals as goal

pub unreachable-requires : goal.unreachable-requires
unreachable-requires g c = c.requires.damaged (sound-held _ _ _ _ (c.in-Ok.ensures.tree c.requires.keeps) _ c.in-Ok.ensures.root (Directory 5) (omega arith))
