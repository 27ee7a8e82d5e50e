use Rattle.std.proofs.lemmas.Result.{IfOk-weaker}
use Rattle.import_replay_clients.proofs.imports.a_cache_has_its_size.Goals as goal

pub returns-clause-size : goal.returns-clause-size
returns-clause-size g c = IfOk-weaker c.import.result _ _ (λ i cache. cache.1) c.import.ensures.cache

pub returns-clause-empty : goal.returns-clause-empty
returns-clause-empty g c = IfOk-weaker c.import.result _ _ (λ i cache. i.empty) c.import.ensures.cache
