use Rattle.std.proofs.Common.{arith, rules}
use Rattle.transactions.proofs.SamePlans.{all_shapes}
use Rattle.transactions.proofs.plan.have_shapes.Goals as goal

pub returns : goal.returns
returns c = (λ _. all_shapes c.args.ops.now c.args.plan.now c.if-ops-plan.false (λ k d e below. c.loop-index.invariant k d e (omega arith)), λ _. search rules)
