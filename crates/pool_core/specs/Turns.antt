-- A step of a pool on its device, from a past that explains it to the past after the step.
use Rattle.std.specs.Prelude.{IsTrue}
use Rattle.base.specs.declared.step.Step as declared_step
use Rattle.base.specs.declared.step.Reply as declared_reply
use Rattle.base.specs.steps.Additions.{past_after}
use Rattle.base.specs.steps.Tables.{AreTablesExplained}
use Rattle.base.specs.history.Past.{Past}
use Rattle.base.specs.steps.Steps.{State}
use Rattle.base.specs.kept.Stored.{Held, IsHeld}
use Rattle.device_model.specs.declared.device.SectorDevice.{Ghosts}
use Rattle.pool_core.specs.declared.state.PoolState.{PoolState}
use Rattle.pool_core.specs.Calls.{CallsDevice, answer_in}
use Rattle.pool_tables.specs.Told.{Leads, ShownPool, held_with, state_with}
use Rattle.pool_core.specs.Holds.{IsStepOver}
use Rattle.pool_core.specs.KeptSafe.{KeepsSafe}
use Rattle.pool_core.specs.States.{CountsRefused, shown, told}
use Rattle.pool_core.specs.StepReplies.{IsStep, StepReplies}

-- the state after a step with this reply: what is shown then, with the past after the step
abbrev pub turned_state : declared_step.Step → declared_reply.Reply → ShownPool → ShownPool → Past → State
turned_state s r old new past = state_with new (past_after s r (state_with old past))

-- the same of what the device holds
abbrev pub held_after : declared_step.Step → declared_reply.Reply → ShownPool → ShownPool → Past → Held
held_after s r old new past = held_with new (past_after s r (state_with old past))

-- Where this past explains what is shown, the step with its reply is one of the definitions, and the past after it
-- explains what is shown then. Over a device that keeps the disk model, if with this past the device also holds what it
-- should, the step is one over its bytes, and it holds what it should then.
pub record TurnsTo (keeps : Type 0) (s : declared_step.Step) (r : declared_reply.Reply) (old new : ShownPool) (past : Past) : Type 0 where
  pub step : AreTablesExplained old.shown past → IsStep s r (state_with old past) (turned_state s r old new past)
  pub explained : AreTablesExplained old.shown past → AreTablesExplained new.shown (past_after s r (state_with old past))
  pub over : keeps → IsHeld (held_with old past) → IsStepOver s r (held_with old past) (held_after s r old new past)
  pub held : keeps → IsHeld (held_with old past) → IsHeld (held_after s r old new past)

module _ {Dev : Type 0} {G : Ghosts Dev} where
  -- so from each past
  abbrev pub Turns : declared_step.Step → declared_reply.Reply → PoolState Dev G → PoolState Dev G → Type 0
  Turns s r old new = (past : Past) → TurnsTo (IsTrue G.keeps_model) s r (told old) (told new) past

  -- all that a step of a pool on its device, with its reply, does
  pub record MakesStep (s : declared_step.Step) (r : declared_reply.Reply) (old new : PoolState Dev G) : Type 0 where
    pub replied : StepReplies s r (shown old) (shown new)
    pub turns : Turns s r old new
    pub leads : IsTrue G.keeps_model → Leads r (told old) (told new)
    pub safe : IsTrue G.keeps_model → KeepsSafe s r old new
    pub calls : CallsDevice s r old new
    pub count : CountsRefused (answer_in r) old new
