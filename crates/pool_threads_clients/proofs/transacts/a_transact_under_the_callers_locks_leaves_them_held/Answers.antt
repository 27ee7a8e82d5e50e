use Rattle.pool_threads_clients.proofs.TransactClients.{keeps_locks}
use Rattle.pool_threads_clients.proofs.transacts.a_transact_under_the_callers_locks_leaves_them_held.Goals as goal

pub returns : goal.returns
returns g c = keeps_locks c.args.owner c.args.ops c.args.handle.now c.transact_locked.new.self c.transact_locked.ensures.released
