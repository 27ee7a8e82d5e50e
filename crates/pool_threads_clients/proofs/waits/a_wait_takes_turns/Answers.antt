use Rattle.pool_threads.proofs.Waited.{whole_wait}
use Rattle.pool_threads_clients.proofs.waits.a_wait_takes_turns.Goals as goal

pub returns : goal.returns
returns g c = let m = (whole_wait _ _ c.fsync.ensures.waited).made in (m.had, m.took, m.turn, m.met_none)
