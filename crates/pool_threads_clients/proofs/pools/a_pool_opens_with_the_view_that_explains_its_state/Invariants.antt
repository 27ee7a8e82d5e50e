use Rattle.pool_threads_clients.proofs.pools.a_pool_opens_with_the_view_that_explains_its_state.Given as goal

-- the view that the caller picked
abbrev pub ghost-new : goal.ghost-new
ghost-new g a = g.first
