use Rattle.pool_threads_clients.proofs.pools.a_pool_closes_behind_what_its_handle_saw.Goals as goal

pub returns-in-Some : goal.returns-in-Some
returns-in-Some g c = (c.in-Some.ensures.last.last, c.in-Some.ensures.last.ends.explains, c.in-Some.ensures.last.onward)
