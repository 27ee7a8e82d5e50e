-- A run of steps, with each past that explains what was shown before it.
use Rattle.std.specs.Prelude.{List}
use Rattle.base.specs.declared.step.Step as declared_step
use Rattle.base.specs.declared.step.Reply as declared_reply
use Rattle.base.specs.steps.Tables.{AreTablesExplained}
use Rattle.base.specs.history.Past.{Past}
use Rattle.base.specs.steps.Runs.{Run}
use Rattle.base.specs.steps.Shown.{Shown}
use Rattle.pool_core.specs.StepReplies.{IsStep}

-- whatever past explained what was shown, the steps with these replies are a run of the definitions to a later past,
-- which explains what is shown then
abbrev pub RunsOn : List declared_step.Step → List declared_reply.Reply → Shown → Shown → Type 0
RunsOn ss rs old new = (past : Past) → AreTablesExplained old past
    → (later : Past) × Run IsStep ss rs (record { shown = old; past = past }) (record { shown = new; past = later }) × AreTablesExplained new later
