use Rattle.std.proofs.Common.{◌∙◌, ap}
use Rattle.extents.specs.Patches.{Patch}
use Rattle.object_maps_clients.proofs.changes.groups.the_groups_move_up.Goals as goal

pub returns-clause-oldest : goal.returns-clause-oldest
returns-clause-oldest c = ap (λ (p : Patch). p.basis) (c.drop_oldest.ensures.changes.patches 0 7) ∙ c.requires

pub returns-clause-last : goal.returns-clause-last
returns-clause-last c = c.drop_oldest.ensures.changes.patches 2 7
