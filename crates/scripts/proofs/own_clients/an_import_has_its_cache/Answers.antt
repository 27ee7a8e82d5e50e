use Rattle.std.proofs.Common.{refl}
use Rattle.scripts.proofs.Refusals.{import_cache}
use Rattle.scripts.proofs.Relations.{of_own}
use Rattle.scripts.specs.OwnPools.{IsPlannedOn}
use Rattle.scripts.proofs.own_clients.an_import_has_its_cache.Goals as goal

pub returns : goal.returns
returns c = λ pool is. import_cache (of_own _) IsPlannedOn (λ old device m cache_blocks moment pool it. it) 2097152 2 c.args.session.now c.run.new.self c.run.result pool (c.run.ensures.answered refl) c.requires c.run.ensures.done is
