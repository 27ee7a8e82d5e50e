use Rattle.std.proofs.Common.{◌≡◌, ◌+◌, ◌≤◌, take}
use Rattle.std.specs.Prelude.{sum_by}
use Rattle.base.specs.history.Plans.{shape_of, size_of_shape}
use Rattle.records.proofs.record.size_of.Given as goal

-- the size so far, which is within the limit
abbrev pub invariant-loop-op : goal.invariant-loop-op
invariant-loop-op l = (l.size ≤ 65536) × (l.size ≡ 22 + sum_by (λ op. size_of_shape (shape_of op)) (take l.op-index l.ops))
