use Rattle.std.proofs.Common.{◌≡◌, ◌≤◌, ◌++◌, drop, length, vec_capacity, vec_len}
use Rattle.transactions.specs.LockRanges.{joined_after, joined_neighbours}
use Rattle.transactions.proofs.lock_plan.joined_neighbours.Given as goal

-- the ranges so far and what is made of the others are those of all, and there is room for each that is left
abbrev pub invariant-loop-range : goal.invariant-loop-range
invariant-loop-range l = (l.ranges.items ++ joined_after l.whole (drop l.range-index l.rest) ≡ joined_neighbours l.sorted) × (vec_len l.ranges ≤ l.range-index) × (length l.sorted ≤ vec_capacity l.ranges)
