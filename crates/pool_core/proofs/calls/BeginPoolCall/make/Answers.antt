use Rattle.std.proofs.Common.{refl}
use Rattle.pool_tables.specs.StepAnswers.{admitted_numbers}
use Rattle.pool_core.proofs.MadeSteps.{still_step}
use Rattle.pool_core.proofs.calls.BeginPoolCall.make.Goals as goal

pub returns : goal.returns
returns g c = still_step admitted_numbers (λ r x y h. h) refl (λ b. refl) (λ r d. d) c.begin.ensures.step c.begin.ensures.unmoved
