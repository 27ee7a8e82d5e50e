use Rattle.pool_threads_clients.proofs.turns.a_try_that_answers_none_had_no_turn.Goals as goal

pub returns-in-Some-clause-made : goal.returns-in-Some-clause-made
returns-in-Some-clause-made g c = (c.in-Some.ensures.made.made.took, c.in-Some.ensures.made.made.turn)
