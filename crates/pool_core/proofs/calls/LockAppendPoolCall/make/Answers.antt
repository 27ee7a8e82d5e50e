use Rattle.std.proofs.Common.{refl}
use Rattle.pool_tables.specs.StepAnswers.{appended_numbers}
use Rattle.pool_core.proofs.MadeSteps.{still_step}
use Rattle.pool_core.proofs.calls.LockAppendPoolCall.make.Goals as goal

pub returns : goal.returns
returns g c = still_step appended_numbers (λ r x y h. h) refl (λ b. refl) (λ r d. d) c.lock_append.ensures.step c.lock_append.ensures.unmoved
