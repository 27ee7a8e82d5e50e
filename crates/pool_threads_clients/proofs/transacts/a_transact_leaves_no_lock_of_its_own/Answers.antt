use Rattle.pool_threads_clients.proofs.TransactClients.{keeps_locks}
use Rattle.pool_threads_clients.proofs.transacts.a_transact_leaves_no_lock_of_its_own.Goals as goal

pub returns : goal.returns
returns g c = keeps_locks c.args.owner c.args.ops c.args.handle.now c.transact.new.self c.transact.ensures.released
