use Rattle.pool_threads_clients.proofs.answers.a_lock_with_a_limit_takes_turns.Goals as goal

pub returns : goal.returns
returns g c = let made = c.lock_within.ensures.made.made in (made.had, made.took, made.turn, made.met_none)
