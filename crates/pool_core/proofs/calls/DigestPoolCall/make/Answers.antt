use Rattle.std.proofs.Common.{refl}
use Rattle.base.specs.steps.Steps as steps
use Rattle.pool_core.proofs.MadeSteps.{read_step}
use Rattle.pool_core.proofs.calls.DigestPoolCall.make.Goals as goal

pub returns : goal.returns
returns g c =
    read_step {Does = λ keeps. steps.Digest keeps} (λ keeps now r x y h. h) refl (λ b. refl) (λ r d. d) c.digest.ensures.step c.digest.ensures.held c.digest.ensures.tables c.digest.ensures.reads
