use Rattle.std.proofs.Common.{◌≡◌}
use Rattle.tree_blocks.specs.TreeObjects.{objects_of}
use Rattle.tree_blocks.proofs.ListedObjects.{listed_below}
use Rattle.tree_blocks.proofs.tree.Tree.list_objects.Given as goal

-- the objects below this number are listed
abbrev pub invariant-loop-number : goal.invariant-loop-number
invariant-loop-number l = l.list.items ≡ listed_below (objects_of l.self) l.number
