use Rattle.std.proofs.Common.{refl}
use Rattle.base.specs.steps.Refusals.{object_range}
use Rattle.base.specs.steps.Steps as steps
use Rattle.pool_core.proofs.MadeSteps.{read_step}
use Rattle.pool_core.proofs.calls.ReadPoolCall.make.Goals as goal

pub returns : goal.returns
returns g c =
    let a = c.args.self in
    read_step {Does = λ keeps. steps.Read keeps a.owner.0 (object_range a.object.0 a.range.low a.range.high)} (λ keeps now r x y h. h) refl (λ b. refl) (λ r d. d)
    c.read.ensures.step c.read.ensures.held c.read.ensures.tables c.read.ensures.reads
