use Rattle.std.proofs.Common.{ℕ, ◌-◌, Option, None, Some}
use Rattle.range_locks.specs.declared.parts.Part.{Part}
use Rattle.range_locks.proofs.PieceWalk.{IsWalked}
use Rattle.range_locks.proofs.parts.Parts.pieces.Given as goal

-- the pieces so far, and those from the next key on, are all of them
abbrev pub invariant-loop-begin : goal.invariant-loop-begin
invariant-loop-begin l = IsWalked l.self.table l.pieces.items l.begin

-- how many offsets there are from the next key on
abbrev offsets_left : Option (ℕ × Part) → ℕ
offsets_left None = 0
offsets_left (Some b) = 28449794 - b.0

abbrev pub decreases-loop-begin : goal.decreases-loop-begin
decreases-loop-begin l = offsets_left l.begin
