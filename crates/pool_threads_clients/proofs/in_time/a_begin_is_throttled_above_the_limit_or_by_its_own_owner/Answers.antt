use Rattle.pool_threads.specs.Answers.{state_seen}
use Rattle.pool_threads_clients.proofs.OwnWays.{refused_or_open}
use Rattle.pool_threads_clients.proofs.in_time.a_begin_is_throttled_above_the_limit_or_by_its_own_owner.Goals as goal

pub returns : goal.returns
returns g c = refused_or_open (record { 0 = 3 }) (state_seen c.begin.new.self).shown _ _ c.begin.result c.begin.ensures.for_good
