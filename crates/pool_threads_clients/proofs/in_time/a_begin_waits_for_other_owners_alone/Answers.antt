use Rattle.pool_threads_clients.proofs.OwnWays.{begin_waits}
use Rattle.pool_threads_clients.proofs.in_time.a_begin_waits_for_other_owners_alone.Goals as goal

pub returns : goal.returns
returns g c = begin_waits (record { 0 = 3 }) c.args.handle.now c.begin.new.self c.args.plan c.begin.ensures.in_time
