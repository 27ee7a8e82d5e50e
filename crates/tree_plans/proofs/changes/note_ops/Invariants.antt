use Rattle.std.proofs.Common.{List, take, ◌++◌}
use Rattle.base.specs.declared.operation.Op.{Op}
use Rattle.tree_plans.specs.Marks.{AreToldSoFar}
use Rattle.tree_plans.proofs.changes.note_ops.Given as goal

abbrev pub invariant-loop-op : goal.invariant-loop-op
invariant-loop-op l = (done : List Op) → AreToldSoFar done l.maps l.fn.objects.entries → AreToldSoFar (done ++ take l.op-index l.ops) l.maps l.objects.entries
