use Rattle.pool_threads.specs.Answers.{state_seen}
use Rattle.pool_threads_clients.proofs.OwnWays.{short_or_open}
use Rattle.pool_threads_clients.proofs.transacts.a_transact_without_space_has_nothing_left_to_sync.Goals as goal

pub returns : goal.returns
returns g c = short_or_open (record { 0 = 3 }) (state_seen c.transact.new.self).shown _ c.transact.result c.transact.ensures.short
