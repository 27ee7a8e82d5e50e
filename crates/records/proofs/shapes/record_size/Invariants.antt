use Rattle.std.proofs.Common.{◌≡◌, ◌+◌, ◌≤◌, take}
use Rattle.std.specs.Prelude.{sum_by}
use Rattle.base.specs.history.Plans.{size_of_shape}
use Rattle.records.proofs.shapes.record_size.Given as goal

-- the size so far, which is within the limit
abbrev pub invariant-loop-shape : goal.invariant-loop-shape
invariant-loop-shape l = (l.size ≤ 65536) × (l.size ≡ 22 + sum_by size_of_shape (take l.shape-index l.plan))
