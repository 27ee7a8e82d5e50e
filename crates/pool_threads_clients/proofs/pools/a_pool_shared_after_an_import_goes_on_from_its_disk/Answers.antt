use Rattle.std.proofs.Common.{sym, subst}
use Rattle.base.specs.history.Contents.{Contents}
use Rattle.base.specs.steps.Explains.{IsLeftBy}
use Rattle.pool_threads_clients.proofs.pools.a_pool_shared_after_an_import_goes_on_from_its_disk.Goals as goal

pub returns-in-Ok-clause-left : goal.returns-in-Ok-clause-left
returns-in-Ok-clause-left g c = λ keeps past was. subst (λ (x : Contents). IsLeftBy past x) (sym c.in-Ok.ensures.opened.shows) (c.in-Ok.ensures.opened.left keeps past was)
