use Rattle.pool_threads.proofs.SafeTurns.{stepped_safe}
use Rattle.pool_threads_clients.proofs.crashes.a_crash_within_a_commit_leaves_a_cut.Goals as goal

pub returns : goal.returns
returns g c =
    let made = c.commit.ensures.made.made in
    (made.took, made.turn, λ keeps created follows. stepped_safe _ _ _ _ _ created made.made keeps follows)
