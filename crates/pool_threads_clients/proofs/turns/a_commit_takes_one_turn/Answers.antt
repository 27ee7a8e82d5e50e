use Rattle.pool_threads_clients.proofs.turns.a_commit_takes_one_turn.Goals as goal

pub returns : goal.returns
returns g c = let made = c.commit.ensures.made.made in (made.took, made.turn, made.met_none)
