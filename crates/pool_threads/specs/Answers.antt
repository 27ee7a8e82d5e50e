-- What the answer of a call says of the pool, by what its handle had seen before the call and has seen after it.
use Rattle.std.specs.Prelude.{◌≡◌, ◌++◌, ◌∷◌, [], All, List, true, false, IsTrue}
use Rattle.base.specs.declared.error.PoolError.{PoolError}
use Rattle.base.specs.declared.step.Step as declared_step
use Rattle.base.specs.declared.step.Reply as declared_reply
use Rattle.base.specs.declared.step.Reply.TheVariants as reply
use Rattle.base.specs.steps.Runs.{refusal_of_step}
use Rattle.base.specs.steps.Seen.{IsRefusedBetween}
use Rattle.base.specs.steps.SeenLaws.{is_suspending, is_untested}
use Rattle.base.specs.steps.Shown.{Shown}
use Rattle.base.specs.steps.Steps.{State}
use Rattle.device_model.specs.declared.device.SectorDevice.{Ghosts}
use Rattle.pool_threads.specs.declared.handle.Handle.{Handle}
use Rattle.pool_threads.specs.Handles.{StaysInPool, turns_of}
use Rattle.pool_threads.specs.Turns.{HasHad, HasHadAtLast, HasHadOne, IsStepTurn}
use Rattle.pool_threads.specs.Views.{SeenPool, viewed_state}
use Rattle.word_lock.specs.declared.rule.Turn.{Turn}
use Rattle.word_lock.specs.Seats.{seen}

-- What is so of a refusal, by the states before and after the call: each but those of memory and of the device is the
-- one that the rules give in some state between, and after those of the device and after `Suspended` the pool is
-- suspended from then on.
pub record IsRefusal (s : declared_step.Step) (e : PoolError) (before after : State) : Type 0 where
  pub ruled : is_untested e ≡ false → IsRefusedBetween (refusal_of_step s) e before after
  pub suspended : is_suspending e ≡ true → after.shown.suspended ≡ true

module _ {Dev : Type 0} {G : Ghosts Dev} where
  -- what the handle has seen
  abbrev pub state_seen : Handle Dev G → State
  state_seen h = viewed_state (seen h.seat)

  -- of the states that a handle had seen before a call and has seen after it
  abbrev pub Sees : (State → State → Type 0) → Handle Dev G → Handle Dev G → Type 0
  Sees P old new = ∥ P (state_seen old) (state_seen new) ∥₁

  -- the handle is of the same pool, and had one turn and no other, of which this is so
  pub record TakesOne (P : Turn SeenPool → Type 0) (old new : Handle Dev G) : Type 0 where
    pub same_pool : StaysInPool old new
    pub made : HasHadOne (IsTrue G.keeps_model) P old.seat new.seat

  -- so far the handle had turns of which this is so, and no others
  pub record Takes (P : Turn SeenPool → Type 0) (old now : Handle Dev G) : Type 0 where
    pub same_pool : StaysInPool old now
    pub made : HasHad (IsTrue G.keeps_model) P old.seat now.seat

  -- after such turns the handle had one more, of which that is so, and no others
  pub record TakesAtLast (P Q : Turn SeenPool → Type 0) (old new : Handle Dev G) : Type 0 where
    pub same_pool : StaysInPool old new
    pub made : HasHadAtLast (IsTrue G.keeps_model) P Q old.seat new.seat

  -- the handle made this step with this reply in one turn and no other
  abbrev pub Makes : declared_step.Step → declared_reply.Reply → Handle Dev G → Handle Dev G → Type 0
  Makes s r = TakesOne (IsStepTurn (IsTrue G.keeps_model) s r)

  -- the handle made this step with this reply, after turns in which it was refused so, and in no other turn
  abbrev pub MakesAtLast : declared_step.Step → PoolError → declared_reply.Reply → Handle Dev G → Handle Dev G → Type 0
  MakesAtLast s e r = TakesAtLast (IsStepTurn (IsTrue G.keeps_model) s (reply.Refused e)) (IsStepTurn (IsTrue G.keeps_model) s r)

  -- The handle had turns, each of which left a pool in which this was not so, and then one more.
  pub record WaitsWhileNot (V : Shown → Type 0) (old new : Handle Dev G) : Type 0 where
    pub had : List (Turn SeenPool)
    pub each : All (λ (t : Turn SeenPool). V (viewed_state t.left).shown → ⊥) had
    pub last : Turn SeenPool
    pub turns : turns_of new ≡ (turns_of old ++ had) ++ last ∷ []
