use Rattle.std.proofs.Common.{◌≡◌, ◌≤◌, length, vec_capacity, vec_len}
use Rattle.transactions.proofs.LockPlans.{ranges_of_front}
use Rattle.transactions.proofs.lock_plan.joined_in_turn.Given as goal

-- the ranges of the shapes so far, with room for one of each shape that is left
abbrev pub invariant-loop-shape : goal.invariant-loop-shape
invariant-loop-shape l = (l.ranges.items ≡ ranges_of_front l.shape-index l.plan) × (vec_len l.ranges ≤ l.shape-index) × (length l.plan ≤ vec_capacity l.ranges)
