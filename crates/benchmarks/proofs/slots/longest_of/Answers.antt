use Rattle.std.proofs.Common.{arith}
use Rattle.benchmarks.proofs.Halvings.{doubled_fits, longest_near}
use Rattle.benchmarks.proofs.slots.longest_of.Goals as goal

pub overflow_mul-longest-in-loop : goal.overflow_mul-longest-in-loop
overflow_mul-longest-in-loop c =
    omega (arith, doubled_fits c.args.slot c.saturating_sub-doublings.result c.loop.longest c.loop.counter c.saturating_sub-doublings.ensures c.requires c.loop-test.true c.loop.invariant)

pub overflow_add-longest : goal.overflow_add-longest
overflow_add-longest c =
    omega (arith, doubled_fits c.args.slot c.saturating_sub-doublings.result c.loop.longest c.loop.counter c.saturating_sub-doublings.ensures c.requires c.loop-test.true c.loop.invariant)

pub returns-clause-near : goal.returns-clause-near
returns-clause-near c =
    longest_near c.args.slot c.saturating_sub-doublings.result c.loop.longest c.loop.counter c.saturating_sub-doublings.ensures (omega (arith, c.loop-test.false, c.loop.auto.counter-end)) c.loop.invariant
