use Rattle.pool_threads_clients.proofs.WaitClients.{syncs_alone}
use Rattle.pool_threads_clients.proofs.waits.a_sync_of_the_pool_makes_steps_of_syncs_alone.Goals as goal

pub returns : goal.returns
returns g c = syncs_alone c.sync_pool.result c.sync_pool.ensures.synced
