use Rattle.base.specs.steps.Refusals.{object_range}
use Rattle.pool_threads_clients.proofs.OwnWays.{lock_waits}
use Rattle.pool_threads_clients.proofs.in_time.a_lock_waits_for_other_owners_alone.Goals as goal

pub returns : goal.returns
returns g c = lock_waits (record { 0 = 3 }) c.args.handle.now c.lock.new.self (object_range 5 c.args.range.low c.args.range.high) c.lock.ensures.in_time
