use Rattle.pool_threads_clients.proofs.turns.an_unlock_takes_one_turn.Goals as goal

pub returns : goal.returns
returns g c = let made = c.unlock.ensures.made.made in (made.took, made.turn, made.met_none)
