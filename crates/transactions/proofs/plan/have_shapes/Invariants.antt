use Rattle.std.proofs.Common.{ℕ, ◌≡◌, ◌<◌, get_or}
use Rattle.base.specs.declared.operation.Op.{Op}
use Rattle.base.specs.declared.operation.Shape.{Shape}
use Rattle.base.specs.history.Plans.{shape_of}
use Rattle.transactions.proofs.plan.have_shapes.Given as goal

-- the operations so far have the plan's shapes
abbrev pub invariant-loop-index : goal.invariant-loop-index
invariant-loop-index l = (k : ℕ) (d : Op) (e : Shape) → k < l.index → shape_of (get_or l.ops k d) ≡ get_or l.plan k e
