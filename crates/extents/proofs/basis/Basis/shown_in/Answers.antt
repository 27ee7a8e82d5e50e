use Rattle.std.proofs.Common.{arith}
use Rattle.base.proofs.tree.Strips.{record-count}
use Rattle.extents.proofs.basis.Basis.shown_in.Goals as goal

pub overflow_mul-begin : goal.overflow_mul-begin
overflow_mul-begin c = omega (arith, c.requires, record-count)
