use Rattle.std.proofs.Common.{take}
use Rattle.object_views.specs.Zeros.{HasListedLengths}
use Rattle.object_views.proofs.zeros.ZeroObjects.of.Given as goal

-- the lengths of the objects so far are set
abbrev pub invariant-loop-object : goal.invariant-loop-object
invariant-loop-object l = HasListedLengths (take l.object-index l.objects) l.zeros
