use Rattle.pool_threads_clients.proofs.CrashClients.{finished_history, refused_history}
use Rattle.pool_threads_clients.proofs.pools.a_finished_pool_leaves_its_history.Goals as goal

pub returns-in-Ok : goal.returns-in-Ok
returns-in-Ok g c = λ keeps created follows. finished_history keeps _ 7 created follows _ _ c.in-Ok.ensures

pub returns-in-Err : goal.returns-in-Err
returns-in-Err g c = λ keeps created follows. refused_history keeps _ 7 created follows _ _ c.in-Err.ensures
