use Rattle.std.proofs.Common.{◌≡◌, ℕ, ◌-◌, ◌≤◌}
use Rattle.range_locks.specs.Rows.{part_in}
use Rattle.range_locks.specs.Parts.{Counts, IsTable, recounted}
use Rattle.range_locks.proofs.parts.Parts.recount.Given as goal

-- the offsets up to this one are counted, the others as they were
abbrev pub invariant-loop-at : goal.invariant-loop-at
invariant-loop-at l = (l.fn.range.low ≤ l.offset) × (l.offset ≤ l.fn.range.high)
    × ((k : ℕ) → l.offset ≤ k → part_in l.self.table k ≡ part_in l.fn.self.table k)
    × ((f : Counts) → IsTable l.fn.self.table f → IsTable l.self.table (recounted (record { low = l.fn.range.low; high = l.offset }) l.change f))

abbrev pub decreases-loop-at : goal.decreases-loop-at
decreases-loop-at l = l.fn.range.high - l.offset
