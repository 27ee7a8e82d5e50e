use Rattle.std.proofs.Common.{◌≡◌, ℕ, ◌-◌, ◌≤◌, ◌<◌, false}
use Rattle.std.specs.Prelude.{IfSome}
use Rattle.range_locks.specs.Rows.{part_in}
use Rattle.range_locks.specs.declared.parts.Part.{Part}
use Rattle.range_locks.specs.Parts.{blocks_part}
use Rattle.range_locks.proofs.parts.Parts.blocks.Given as goal

-- no part up to this offset keeps the lock away
abbrev pub invariant-loop-at : goal.invariant-loop-at
invariant-loop-at l = (l.fn.range.low ≤ l.offset) × (l.offset ≤ l.fn.range.high)
    × ((k : ℕ) → l.fn.range.low ≤ k → k < l.offset → IfSome (part_in l.self.table k) (λ (p : Part). blocks_part l.mode p ≡ false))

abbrev pub decreases-loop-at : goal.decreases-loop-at
decreases-loop-at l = l.fn.range.high - l.offset
