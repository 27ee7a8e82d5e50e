use Rattle.pool_threads_clients.proofs.CrashClients.{followed_behind}
use Rattle.pool_threads_clients.proofs.pools.one_history_explains_a_new_pool.Goals as goal

pub returns-in-Ok-open-clause-followed : goal.returns-in-Ok-open-clause-followed
returns-in-Ok-open-clause-followed g c = λ keeps. followed_behind _ _ _ c.in-Ok-open.ensures.opened.rule (c.in-Ok.ensures.left keeps)

pub returns-in-Ok-open-clause-explained : goal.returns-in-Ok-open-clause-explained
returns-in-Ok-open-clause-explained g c = λ keeps.
    c.in-Ok-open.ensures.opened.explained keeps _ (followed_behind _ _ _ c.in-Ok-open.ensures.opened.rule (c.in-Ok.ensures.left keeps))
