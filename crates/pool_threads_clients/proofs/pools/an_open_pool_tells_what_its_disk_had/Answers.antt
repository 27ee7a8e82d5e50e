use Rattle.std.proofs.Common.{ap, ◌∙◌}
use Rattle.pool_threads.specs.declared.opened.Opened.{Opened}
use Rattle.pool_threads_clients.proofs.pools.an_open_pool_tells_what_its_disk_had.Goals as goal

pub returns-in-Ok : goal.returns-in-Ok
returns-in-Ok g c = λ keeps. let it = c.in-Ok.ensures.imported keeps in let told = c.opened.ensures ∙ it.told_is in (it.synced.u, it.synced.active, ap (λ (o : Opened). o.guid) told ∙ it.synced.guid, ap (λ (o : Opened). o.group.0) told ∙ it.synced.group, ap (λ (o : Opened). o.import_number) told ∙ it.synced.import_number)
