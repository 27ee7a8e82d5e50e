use Rattle.std.proofs.Common.{◌≡◌, take, length}
use Rattle.base.specs.formats.Limits.{object_count}
use Rattle.contents.specs.Judging.{ApplyTo}
use Rattle.contents.specs.Presence.{AreNoted}
use Rattle.contents.proofs.judging.judge_many.Given as goal

-- the operations so far can take place in order, and what they make of objects is noted
abbrev pub invariant-loop-op : goal.invariant-loop-op
invariant-loop-op g l = (length l.noted ≡ object_count) × (AreNoted (take l.op-index l.ops) l.noted × ApplyTo (take l.op-index l.ops) (g.O.ObjectSource.objects l.objects))
