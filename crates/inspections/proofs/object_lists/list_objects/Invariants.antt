use Rattle.std.proofs.Common.{◌≡◌}
use Rattle.tree_blocks.proofs.ListedObjects.{listed_below}
use Rattle.inspections.proofs.object_lists.list_objects.Given as goal

-- the objects below this number are listed
abbrev pub invariant-loop-number : goal.invariant-loop-number
invariant-loop-number g l = l.list.items ≡ listed_below (g.O.ObjectSource.objects l.objects) l.number
