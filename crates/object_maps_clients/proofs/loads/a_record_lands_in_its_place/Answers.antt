use Rattle.object_maps_clients.proofs.HeldTrees.{record-in_place}
use Rattle.object_maps_clients.proofs.loads.a_record_lands_in_its_place.Goals as goal

pub returns : goal.returns
returns g c = record-in_place _ _ _ _ (c.in_ok-loaded.ensures.tree c.requires.keeps) _ c.in_ok-loaded.ensures.root c.requires.there
