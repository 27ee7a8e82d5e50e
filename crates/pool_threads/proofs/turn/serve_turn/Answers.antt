use Rattle.pool_threads.proofs.Served.{explained_by, grows_from, served_by}
use Rattle.pool_threads.proofs.turn.serve_turn.Goals as goal

pub put_back-requires-clause-grows : goal.put_back-requires-clause-grows
put_back-requires-clause-grows g c = grows_from _ _ _ _ _ _ c.requires.view c.serve_noted-reply.ensures.made

pub returns-clause-served : goal.returns-clause-served
returns-clause-served g c = served_by _ _ _ _ _ _ _ c.requires.view c.serve_noted-reply.ensures.made c.put_back.ensures.freed.1 c.put_back.ensures.turn

pub returns-clause-explained : goal.returns-clause-explained
returns-clause-explained g c = explained_by _ _ _ c.serve_noted-reply.ensures.explains c.put_back.ensures.freed.1
