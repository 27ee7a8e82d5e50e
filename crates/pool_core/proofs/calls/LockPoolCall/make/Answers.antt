use Rattle.std.proofs.Common.{refl}
use Rattle.pool_tables.specs.StepAnswers.{lock_number}
use Rattle.pool_core.proofs.MadeSteps.{still_step}
use Rattle.pool_core.proofs.calls.LockPoolCall.make.Goals as goal

pub returns : goal.returns
returns g c = still_step lock_number (λ r x y h. h) refl (λ b. refl) (λ r d. d) c.lock.ensures.step c.lock.ensures.unmoved
