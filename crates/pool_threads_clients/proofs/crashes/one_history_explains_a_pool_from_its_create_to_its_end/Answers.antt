use Rattle.pool_threads_clients.proofs.CrashClients.{ended_explained}
use Rattle.pool_threads_clients.proofs.crashes.one_history_explains_a_pool_from_its_create_to_its_end.Goals as goal

pub returns : goal.returns
returns g c = λ keeps. ended_explained keeps _ _ _ c.in-Ok-open.ensures.opened.rule (c.in-Ok.ensures.left keeps) c.close.result c.close.ensures
