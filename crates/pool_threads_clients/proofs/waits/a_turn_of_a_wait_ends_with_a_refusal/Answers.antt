use Rattle.pool_threads_clients.proofs.WaitClients.{wait_ends}
use Rattle.pool_threads_clients.proofs.waits.a_turn_of_a_wait_ends_with_a_refusal.Goals as goal

pub returns : goal.returns
returns g c = wait_ends c.args.receipt c.fsync.result c.fsync.ensures.waited
