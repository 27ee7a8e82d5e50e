use Rattle.std.proofs.Common.{refl}
use Rattle.std.proofs.lemmas.Result.{IfOk-weaker}
use Rattle.round_trip.proofs.clients.a_new_pool_has_its_guid.Goals as goal

pub returns : goal.returns
returns c = IfOk-weaker c.make.result _ _ (λ d new. new.active) (c.make.ensures.written refl)
