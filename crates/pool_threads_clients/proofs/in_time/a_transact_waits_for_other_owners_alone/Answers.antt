use Rattle.pool_threads_clients.proofs.OwnWays.{transact_waits}
use Rattle.pool_threads_clients.proofs.in_time.a_transact_waits_for_other_owners_alone.Goals as goal

pub returns : goal.returns
returns g c = transact_waits (record { 0 = 3 }) c.args.handle.now c.transact.new.self c.args.ops c.transact.result c.transact.ensures.made
