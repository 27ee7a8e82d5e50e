-- What a pool keeps of its device, step by step.
use Rattle.std.specs.Prelude.{List}
use Rattle.base.specs.declared.step.Step as declared_step
use Rattle.base.specs.declared.step.Reply as declared_reply
use Rattle.base.specs.history.Past.{Past}
use Rattle.base.specs.steps.Runs as runs
use Rattle.base.specs.steps.Runs.{Run}
use Rattle.base.specs.kept.Stored.{Held, IsHeld}
use Rattle.pool_tables.specs.Told.{ShownPool, held_with}

-- a step with its reply, over a device with the bytes of the old state
abbrev pub IsStepOver : declared_step.Step → declared_reply.Reply → Held → Held → Type 0
IsStepOver s r old new = runs.Step (Unit {0}) old.now s r old.state new.state

-- from each past with which the device holds what it should, the step is one of the definitions to a later past
abbrev pub StepsOver : declared_step.Step → declared_reply.Reply → ShownPool → ShownPool → Type 0
StepsOver s r old new = (past : Past) → IsHeld (held_with old past) → (later : Past) × IsStepOver s r (held_with old past) (held_with new later)

-- a step after which its past explains what is shown then, and the device, with the bytes of then, holds what it should
abbrev pub KeepsHeld : declared_step.Step → declared_reply.Reply → Held → Held → Type 0
KeepsHeld s r old new = IsStepOver s r old new × IsHeld new

-- From each past with which the device holds what it should, the steps with these replies are a run of the definitions,
-- each over the bytes of the state before it, to a later past; after each step, and so at the end, the device holds
-- what it should.
abbrev pub HoldsOn : List declared_step.Step → List declared_reply.Reply → ShownPool → ShownPool → Type 0
HoldsOn ss rs old new = (past : Past) → IsHeld (held_with old past) → (later : Past) × Run KeepsHeld ss rs (held_with old past) (held_with new later) × IsHeld (held_with new later)
