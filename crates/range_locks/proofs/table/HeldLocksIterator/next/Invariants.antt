use Rattle.std.proofs.Common.{◌≡◌, length}
use Rattle.range_locks.specs.Table.{held_in}
use Rattle.range_locks.proofs.table.HeldLocksIterator.next.Given as goal

-- the places so far were empty
abbrev pub invariant-loop-id : goal.invariant-loop-id
invariant-loop-id l = held_in l.self-inside.places ≡ l.fn.self

abbrev pub decreases-loop-id : goal.decreases-loop-id
decreases-loop-id l = length l.self-inside.places
