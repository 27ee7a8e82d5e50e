use Rattle.std.proofs.Common.{refl}
use Rattle.pool_tables.specs.StepAnswers.{group_number}
use Rattle.pool_core.proofs.MadeSteps.{still_step}
use Rattle.pool_core.proofs.calls.MarkQuiescedPoolCall.make.Goals as goal

pub returns : goal.returns
returns g c = still_step group_number (λ r x y h. h) refl (λ b. refl) (λ r d. d) c.mark_quiesced.ensures.step c.mark_quiesced.ensures.unmoved
