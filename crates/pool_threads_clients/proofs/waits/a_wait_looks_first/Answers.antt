use Rattle.pool_threads_clients.proofs.WaitClients.{looks_first}
use Rattle.pool_threads_clients.proofs.waits.a_wait_looks_first.Goals as goal

pub returns : goal.returns
returns g c = looks_first c.args.receipt c.fsync.result c.args.handle.now c.fsync.new.self c.fsync.ensures.waited
