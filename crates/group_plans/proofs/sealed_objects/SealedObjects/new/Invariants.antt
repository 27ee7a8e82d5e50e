use Rattle.std.proofs.Common.{◌≡◌}
use Rattle.group_plans.proofs.sealed_objects.SealedObjects.new.Given as goal

abbrev pub invariant-loop-four : goal.invariant-loop-four
invariant-loop-four l = l.sealed.prepared.now ≡ l.prepared
