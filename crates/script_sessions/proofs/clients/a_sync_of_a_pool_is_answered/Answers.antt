use Rattle.std.proofs.Common.{refl, ◌∙◌, ap}
use Rattle.scripts.specs.Places.{has_pool}
use Rattle.device_model.specs.MemState.{MemState}
use Rattle.scripts.specs.declared.place.Place.{Place}
use Rattle.script_sessions.specs.declared.shared_pool.SharedPool.{SharedPool}
use Rattle.script_sessions.proofs.clients.a_sync_of_a_pool_is_answered.Goals as goal

pub returns : goal.returns
returns g c = λ old was. c.run.ensures.answered refl ∙ ap (λ (p : Place MemState SharedPool). has_pool p) was
