use Rattle.pool_threads_clients.proofs.turns.a_begin_takes_turns.Goals as goal

pub returns : goal.returns
returns g c = let made = c.begin.ensures.made.made in (made.had, made.took, made.turn, made.met_none)
