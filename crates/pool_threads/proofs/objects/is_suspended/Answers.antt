use Rattle.std.proofs.Common.{◌≡◌, sym, ◌∙◌}
use Rattle.std.specs.Prelude.{Err, Ok}
use Rattle.base.specs.declared.error.PoolError.TheVariants.{Suspended}
use Rattle.pool_core.specs.States.{shown}
use Rattle.pool_threads.proofs.ListedObjects.{running_told, suspended_told}
use Rattle.pool_threads.proofs.objects.is_suspended.Goals as goal

pub returns-in-Ok-clause-running : goal.returns-in-Ok-clause-running
returns-in-Ok-clause-running g c = λ answer. running_told (record { 0 = 0 }) c.length.result (shown c.args.state.now) c.length.ensures.step
    (λ is. let no_way : Ok c.in-Ok.field-0 ≡ Err Suspended = sym c.in-Ok.is ∙ is in cc)

pub returns-in-Err-clause-suspended : goal.returns-in-Err-clause-suspended
returns-in-Err-clause-suspended g c = λ yes. suspended_told (record { 0 = 0 }) c.length.result (shown c.args.state.now) c.length.ensures.step c.in-Err.error c.in-Err.is (c.is_suspension.ensures.yes yes)

pub returns-in-Err-clause-running : goal.returns-in-Err-clause-running
returns-in-Err-clause-running g c = λ answer. running_told (record { 0 = 0 }) c.length.result (shown c.args.state.now) c.length.ensures.step
    (λ is. c.is_suspension.ensures.no answer (let given : Err c.in-Err.error ≡ Err Suspended = sym c.in-Err.is ∙ is in let same : c.in-Err.error ≡ Suspended = cc in same))
