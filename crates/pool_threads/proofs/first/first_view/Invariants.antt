use Rattle.pool_threads.proofs.first.first_view.Given as goal

-- the view that the caller picked
abbrev pub ghost-of : goal.ghost-of
ghost-of g a = g.first
