use Rattle.std.proofs.Common.{take}
use Rattle.contents.specs.Presence.{IsMade}
use Rattle.contents.proofs.judging.last_made.Given as goal

-- this is what the operations so far make of the object
abbrev pub invariant-loop-op : goal.invariant-loop-op
invariant-loop-op l = IsMade (take l.op-index l.ops) l.id.0 l.made
