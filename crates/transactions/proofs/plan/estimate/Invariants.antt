use Rattle.std.proofs.Common.{◌≡◌, take}
use Rattle.std.specs.Prelude.{sum_by}
use Rattle.base.specs.history.Plans.{estimate_of_shape}
use Rattle.transactions.proofs.plan.estimate.Given as goal

-- the estimate of the shapes so far
abbrev pub invariant-loop-shape : goal.invariant-loop-shape
invariant-loop-shape l = l.blocks ≡ sum_by estimate_of_shape (take l.shape-index l.plan)
