use Rattle.std.proofs.Common.{take}
use Rattle.tree_plans.specs.Marks.{AreToldSoFar, pending_ops}
use Rattle.tree_plans.proofs.changes.changed_objects.Given as goal

abbrev pub invariant-loop-committed : goal.invariant-loop-committed
invariant-loop-committed l = AreToldSoFar (pending_ops l.group.0 (take l.committed-index l.pending)) l.maps l.objects.entries
