-- Steps over the bytes of a device.
use Rattle.std.proofs.Common.{◌≡◌, ℕ, false, List, []}
use Rattle.std.specs.Prelude.{Result}
use Rattle.base.specs.declared.error.PoolError.{PoolError}
use Rattle.base.specs.declared.names.Group.{Group}
use Rattle.base.specs.declared.step.Step as declared_step
use Rattle.base.specs.declared.step.Step.TheVariants as step
use Rattle.base.specs.declared.step.Reply as declared_reply
use Rattle.base.specs.declared.step.Reply.TheVariants as reply
use Rattle.base.specs.steps.Runs.{asks_device}
use Rattle.base.specs.steps.Steps as steps
use Rattle.base.proofs.steps.AnyDevice.{same_over}
use Rattle.device_model.specs.declared.device.SectorDevice.{Ghosts}
use Rattle.pool_core.specs.declared.state.PoolState.{PoolState}
use Rattle.pool_tables.specs.Told.{ShownPool, start_reply, state_with}
use Rattle.pool_core.specs.Holds.{StepsOver}
use Rattle.pool_core.specs.States.{told}
use Rattle.pool_core.specs.StepReplies.{StepReplies}
use Rattle.pool_tables.specs.SyncStarts.{StartsHeldOver}
use Rattle.pool_core.proofs.RepliedSteps.{replied_with}

-- each step that asks no device for blocks is the same over every device
pub any_bytes : (s : declared_step.Step) (r : declared_reply.Reply) (old new : ShownPool) → asks_device s ≡ false → StepReplies s r old.shown new.shown → StepsOver s r old new
any_bytes s r old new off replies past x =
    let one = replies past (λ rests. x.explained) in
    (one.0, same_over ⊥ (Unit {0}) [] old.now s r (state_with old past) (state_with new one.0) off one.1)

-- the start of a sync, over the bytes of its device
pub start_over : {Dev : Type 0} {G : Ghosts Dev} (old new : PoolState Dev G) (given : declared_reply.Reply) (moment : ℕ) (answer : Result Group PoolError)
    → StartsHeldOver moment answer (told old) (told new) → given ≡ start_reply answer → StepsOver (step.StartSync moment) given (told old) (told new)
start_over old new given moment answer held is past x =
    let now : List ℕ = (told old).now in
    replied_with (λ answer later. steps.StartSync (Unit {0}) now moment answer (state_with (told old) past) (state_with (told new) later))
    (λ (g : Group). g.0) (λ (g : ℕ). reply.Syncing (record { 0 = g })) answer given is (held past x)
