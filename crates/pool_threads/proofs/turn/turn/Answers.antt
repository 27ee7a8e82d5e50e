use Rattle.pool_threads.proofs.Made.{stepped_by}
use Rattle.pool_threads.proofs.Turned.{grows_by_one}
use Rattle.pool_threads.proofs.turn.turn.Goals as goal

pub put_back-requires-clause-grows : goal.put_back-requires-clause-grows
put_back-requires-clause-grows g c = grows_by_one _ _ _ _ _ _ c.requires.view c.step_noted-answer.ensures.stepped

pub returns-clause-stepped : goal.returns-clause-stepped
returns-clause-stepped g c = stepped_by _ _ _ _ _ _ _ c.requires.view c.step_noted-answer.ensures.stepped c.put_back.ensures.freed.1 c.put_back.ensures.turn
