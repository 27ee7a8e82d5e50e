use Rattle.running_pools.proofs.Closed.{same_contents}
use Rattle.pool_threads.specs.Handles.{owned_of}
use Rattle.running_pools.proofs.clients.a_pool_that_is_opened_and_closed_has_what_it_had.Goals as goal

pub returns-in-Ok : goal.returns-in-Ok
returns-in-Ok g c = λ keeps. same_contents (owned_of c.in-Ok.pool) c.args.device _ c.in-Ok.ensures.opened c.in-Ok.first c.in-Ok.ensures.first c.close_alone.result c.close_alone.ensures keeps
