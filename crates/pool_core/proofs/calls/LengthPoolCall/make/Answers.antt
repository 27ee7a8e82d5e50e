use Rattle.std.proofs.Common.{refl}
use Rattle.pool_core.proofs.MadeSteps.{plain_read}
use Rattle.pool_core.proofs.calls.LengthPoolCall.make.Goals as goal

pub returns : goal.returns
returns g c = plain_read (λ r x y h. h) refl (λ b. refl) (λ r d. d) c.length.ensures.step refl c.length.ensures.no_call
