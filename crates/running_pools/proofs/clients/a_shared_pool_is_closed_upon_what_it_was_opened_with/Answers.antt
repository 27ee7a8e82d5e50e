use Rattle.running_pools.proofs.Closed.{upon_closed}
use Rattle.pool_threads.specs.Handles.{shared_of}
use Rattle.running_pools.proofs.clients.a_shared_pool_is_closed_upon_what_it_was_opened_with.Goals as goal

pub returns : goal.returns
returns g c = λ keeps past was. upon_closed (shared_of c.args.pool) c.args.device 4096 c.requires c.close.result c.close.ensures keeps past was
