use Rattle.pool_threads.proofs.pool.Pool.new.Given as goal

abbrev pub ghost-first_view : goal.ghost-first_view
ghost-first_view g a = g.first
