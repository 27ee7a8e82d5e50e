use Rattle.pool_threads_clients.proofs.pools.a_pool_of_one_handle_that_lacked_memory_opens_at_last.Goals as goal

pub of_state-requires : goal.of_state-requires
of_state-requires g c = c.in-Err.ensures.given_back.explains
