use Rattle.std.proofs.Common.{inl, inr, refl, arith}
use Rattle.scripts.proofs.PoolSteps.{one_more}
use Rattle.scripts.proofs.pool_commands.finish.Goals as goal

pub loop-step-init : goal.loop-step-init
loop-step-init g c = refl

pub returns-in_default : goal.returns-in_default
returns-in_default g c = record {
  count = c.loop-step._step;
  middle = c.loop-step.pool;
  steps = c.loop-step.invariant;
  last = inl (c.step.ensures, c.in_default.not-More);
}

pub loop-step-preserved : goal.loop-step-preserved
loop-step-preserved g c = one_more g.P.SteppedPool.makes _ _ _ _ c.loop-step.invariant c.in-More.ensures

pub returns : goal.returns
returns g c = record {
  count = c.loop-step._step;
  middle = c.loop-step.pool;
  steps = c.loop-step.invariant;
  last = inr (omega (arith, c.loop-step-test.false, c.loop-step.auto._step-end), refl);
}
