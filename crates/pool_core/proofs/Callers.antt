-- What a caller reads off a run: without steps nothing happens, and the name is told in one reply.
use Rattle.std.proofs.Common.{◌≡◌, ◌∙◌, ℕ, List, [], ◌∷◌, refl, ap}
use Rattle.std.proofs.lemmas.Bool.{false≢true}
use Rattle.std.specs.Prelude.{Err, None, Ok, Result}
use Rattle.base.specs.declared.error.PoolError.{PoolError}
use Rattle.base.specs.declared.step.Step.TheVariants as step
use Rattle.base.specs.declared.step.Reply.{Reply}
use Rattle.base.specs.declared.step.Reply.TheVariants as reply
use Rattle.base.specs.steps.Runs.{Run, reply_of}
use Rattle.base.specs.steps.Shown.{Shown}
use Rattle.base.specs.steps.Steps as steps
use Rattle.base.specs.steps.Steps.{Answers, State}
use Rattle.device_model.specs.declared.device.SectorDevice.{Ghosts}
use Rattle.pool_core.specs.declared.state.PoolState.{PoolState}
use Rattle.pool_core.specs.States.{shown}
use Rattle.pool_core.specs.StepReplies.{StepReplies}
use Rattle.pool_core.specs.Turns.{MakesStep}
use Rattle.pool_tables.proofs.OfNoDevice.{some_past}

-- what is told of a name is the name
told_name : (answer : Result (List ℕ) PoolError) (r : Reply) (old new : State) → r ≡ reply_of (λ name. reply.Name name) answer
    → Answers None answer old new (λ name. steps.Name name old new) steps.Never → r ≡ reply.Name old.shown.contents.name
told_name (Ok name) r old new is h = is ∙ ap (λ (bytes : List ℕ). reply.Name bytes) h.0
told_name (Err e) r old new is h = absurd h

name_replied : (r : Reply) (old new : Shown) → StepReplies step.Name r old new → r ≡ reply.Name old.contents.name
name_replied r old new replied =
    let made = (replied (some_past old) (λ rests. absurd (false≢true rests))).1 in
    told_name made.0 r _ _ made.1 made.2

module _ {Dev : Type 0} {G : Ghosts Dev} where
  -- a run of no steps
  pub none_made : (rs : List Reply) (old new : PoolState Dev G) → Run MakesStep [] rs old new → (rs ≡ []) × (new ≡ old)
  none_made [] old new is = (refl, is)
  none_made (r ∷ rs) old new made = absurd made

  -- a run that asks for the name
  pub name_told : (rs : List Reply) (old new : PoolState Dev G) → Run MakesStep (step.Name ∷ []) rs old new → rs ≡ reply.Name (shown old).contents.name ∷ []
  name_told [] old new made = absurd made
  name_told (r ∷ rs) old new made =
      let rest = none_made rs made.0 new made.2 in
      ap (λ (rs : List Reply). r ∷ rs) rest.0 ∙ ap (λ (r : Reply). let one : List Reply = r ∷ [] in one) (name_replied r (shown old) (shown made.0) made.1.replied)
