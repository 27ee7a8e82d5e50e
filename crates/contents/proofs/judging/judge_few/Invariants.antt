use Rattle.std.proofs.Common.{take}
use Rattle.contents.specs.Judging.{ApplyTo}
use Rattle.contents.proofs.judging.judge_few.Given as goal

-- the operations so far can take place in order
abbrev pub invariant-loop-i : goal.invariant-loop-i
invariant-loop-i g l = ApplyTo (take l.i l.ops) (g.O.ObjectSource.objects l.objects)
