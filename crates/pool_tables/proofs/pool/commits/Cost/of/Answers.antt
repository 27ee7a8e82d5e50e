use Rattle.std.proofs.Common.{arith}
use Rattle.transactions.proofs.Estimates.{estimate_is_small}
use Rattle.pool_tables.proofs.pool.commits.Cost.of.Goals as goal

pub overflow_mul-result : goal.overflow_mul-result
overflow_mul-result c =
    omega (arith, estimate_is_small c.args.plan.now c.requires.allowed c.requires.small, c.estimate-blocks.ensures)
