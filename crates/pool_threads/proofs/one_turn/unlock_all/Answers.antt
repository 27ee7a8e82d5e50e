use Rattle.pool_threads.proofs.Transacted.{all_unlocked, one_more_unlock}
use Rattle.pool_threads.proofs.one_turn.unlock_all.Goals as goal

pub loop-id-preserved : goal.loop-id-preserved
loop-id-preserved g c = (
  c.step_noted.ensures.explains,
  one_more_unlock _ _ c.args.locks.now c.loop-id.id-index _ c.step_noted.result _ _ _ c.loop-id-test.true c.loop-id.invariant.1 c.step_noted.ensures.stepped,
)

pub returns-clause-made : goal.returns-clause-made
returns-clause-made g c = all_unlocked _ _ c.args.locks.now c.loop-id.id-index _ _ c.loop-id-test.false c.loop-id.invariant.1
