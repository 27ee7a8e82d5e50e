use Rattle.pool_threads.proofs.Ends.{ends_as_seen}
use Rattle.pool_threads_clients.proofs.pools.a_pool_of_one_handle_always_closes.Goals as goal

pub returns-clause-same : goal.returns-clause-same
returns-clause-same g c = ends_as_seen _ c.args.last c.requires.only c.close_after.result c.close_after.ensures.last
