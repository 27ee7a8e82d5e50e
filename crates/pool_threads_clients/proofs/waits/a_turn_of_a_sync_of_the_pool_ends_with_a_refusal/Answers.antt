use Rattle.pool_threads_clients.proofs.WaitClients.{sync_ends}
use Rattle.pool_threads_clients.proofs.waits.a_turn_of_a_sync_of_the_pool_ends_with_a_refusal.Goals as goal

pub returns : goal.returns
returns g c = sync_ends c.sync_pool.result c.sync_pool.ensures.synced
