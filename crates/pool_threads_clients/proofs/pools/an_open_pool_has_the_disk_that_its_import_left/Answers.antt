use Rattle.pool_threads_clients.proofs.pools.an_open_pool_has_the_disk_that_its_import_left.Goals as goal

pub returns-in-Ok : goal.returns-in-Ok
returns-in-Ok g c = λ keeps. let it = c.in-Ok.ensures.imported keeps in (it.mounted, it.synced)
