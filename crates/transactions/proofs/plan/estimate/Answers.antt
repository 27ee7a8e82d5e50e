use Rattle.std.proofs.Common.{arith}
use Rattle.transactions.proofs.Estimates.{sum_is_small}
use Rattle.transactions.proofs.plan.estimate.Goals as goal

pub overflow_add-blocks : goal.overflow_add-blocks
overflow_add-blocks c =
    let small = sum_is_small c.args.plan.now c.loop-shape.shape-index _ c.estimate_of_shape-blocks.result c.requires.allowed c.requires.small c.loop-shape-test.true c.estimate_of_shape-blocks.ensures in
    omega (arith, small)
