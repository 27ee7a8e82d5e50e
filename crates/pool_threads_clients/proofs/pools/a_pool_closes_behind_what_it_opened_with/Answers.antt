use Rattle.pool_threads_clients.proofs.pools.a_pool_closes_behind_what_it_opened_with.Goals as goal

pub returns-in-Some : goal.returns-in-Some
returns-in-Some g c = (c.in-Some.ensures.0, c.in-Some.ensures.1.explains, c.in-Some.ensures.1.onward)
