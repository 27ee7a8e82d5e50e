use Rattle.pool_threads_clients.proofs.turns.an_append_lock_takes_turns.Goals as goal

pub returns : goal.returns
returns g c = let made = c.lock_append.ensures.made.made in (made.had, made.took, made.turn, made.met_none)
