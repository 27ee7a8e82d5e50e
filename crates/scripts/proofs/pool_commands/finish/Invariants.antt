use Rattle.scripts.specs.PoolSteps.{MakesSteps}
use Rattle.scripts.proofs.pool_commands.finish.Given as goal

-- each step so far had more after it
abbrev pub invariant-loop-step : goal.invariant-loop-step
invariant-loop-step g l = MakesSteps g.P.SteppedPool.makes l._step l.fn.pool l.pool
