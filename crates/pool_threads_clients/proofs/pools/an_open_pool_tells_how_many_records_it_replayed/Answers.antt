use Rattle.std.proofs.Common.{ap, sym, ◌∙◌}
use Rattle.pool_threads.specs.declared.opened.Opened.{Opened}
use Rattle.pool_threads_clients.proofs.pools.an_open_pool_tells_how_many_records_it_replayed.Goals as goal

pub returns-in-Ok : goal.returns-in-Ok
returns-in-Ok g c = λ keeps. let it = c.in-Ok.ensures.imported keeps in (it.replayed.u, it.replayed.chain, it.replayed.mounts.found.pool.active, it.replayed.mounts.found.chain_is, it.replayed.records_are ∙ sym (ap (λ (o : Opened). o.records) (c.opened.ensures ∙ it.told_is)))
