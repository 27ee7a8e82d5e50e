use Rattle.pool_threads.specs.Answers.{state_seen}
use Rattle.pool_threads_clients.proofs.OwnWays.{short_or_open}
use Rattle.pool_threads_clients.proofs.transacts.nor_has_one_under_the_callers_locks.Goals as goal

pub returns : goal.returns
returns g c = short_or_open (record { 0 = 3 }) (state_seen c.transact_locked.new.self).shown _ c.transact_locked.result c.transact_locked.ensures.short
