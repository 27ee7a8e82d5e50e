use Rattle.std.proofs.Common.{◌∙◌}
use Rattle.object_maps_clients.proofs.HeldTrees.{length-held}
use Rattle.object_maps_clients.proofs.loads.a_load_has_the_lengths_of_entries.Goals as goal

pub returns : goal.returns
returns g c =
    c.in_ok-loaded.loaded.tree.sized 7
    ∙ length-held _ _ _ _ (c.in_ok-loaded.ensures.tree c.requires.keeps) _ c.in_ok-loaded.ensures.root 100 c.requires.there c.requires.present c.requires.length
