use Rattle.object_maps_clients.proofs.HeldTrees.{absent-held}
use Rattle.object_maps_clients.proofs.loads.an_absent_entry_has_no_object.Goals as goal

pub returns : goal.returns
returns g c = absent-held _ _ _ _ (c.in_ok-loaded.ensures.tree c.requires.keeps) _ c.in_ok-loaded.ensures.root c.requires.entry
