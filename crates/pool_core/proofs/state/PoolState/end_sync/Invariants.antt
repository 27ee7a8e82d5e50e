use Rattle.std.specs.Prelude.{ℕ}
use Rattle.pool_core.specs.GroupSyncs.{MakesMore}
use Rattle.pool_core.specs.States.{shown}
use Rattle.pool_core.proofs.GroupSyncs.{steps_left}
use Rattle.pool_core.proofs.state.PoolState.end_sync.Given as goal

-- so far each step had more to come
abbrev pub invariant-loop-group : goal.invariant-loop-group
invariant-loop-group g l = (count : ℕ) × MakesMore count l.initial.self l.self

abbrev pub decreases-loop-group : goal.decreases-loop-group
decreases-loop-group g l = steps_left (shown l.self)
