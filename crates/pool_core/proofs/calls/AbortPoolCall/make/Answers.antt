use Rattle.std.proofs.Common.{refl}
use Rattle.pool_core.proofs.MadeSteps.{plain_step}
use Rattle.pool_core.proofs.calls.AbortPoolCall.make.Goals as goal

pub returns : goal.returns
returns g c = plain_step (λ r x y h. h) refl (λ b. refl) (λ r d. d) c.abort.ensures.step c.abort.ensures.unmoved
