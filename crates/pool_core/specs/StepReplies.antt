-- Steps and their replies.
use Rattle.std.specs.Prelude.{◌≡◌, ◌&&◌, Bool, true, false, not, []}
use Rattle.base.specs.declared.step.Step as declared_step
use Rattle.base.specs.declared.step.Step.TheVariants as step
use Rattle.base.specs.declared.step.Reply as declared_reply
use Rattle.base.specs.steps.Tables.{AreTablesExplained}
use Rattle.base.specs.history.Past.{Past}
use Rattle.base.specs.steps.Runs as runs
use Rattle.base.specs.steps.Runs.{asks_device, is_log_step}
use Rattle.base.specs.steps.Shown.{Shown}
use Rattle.base.specs.steps.Steps.{State}

-- a step with its reply, from a state to the next one, over a device of which nothing is known: it says nothing of the
-- blocks that the device has
abbrev pub IsStep : declared_step.Step → declared_reply.Reply → State → State → Type 0
IsStep s r old new = runs.Step ⊥ [] s r old new

-- whether a step neither may ask the device for tree blocks nor writes or flushes the log
abbrev pub is_on_tables : declared_step.Step → Bool
is_on_tables s = not (asks_device s) && not (is_log_step s)

-- whether a step is told for pasts that explain what was shown: what a commit leaves follows from the history, and so
-- does the tree of a sync
abbrev pub rests_on_past : declared_step.Step → Bool
rests_on_past (step.Commit tx ops) = true
rests_on_past (step.StartSync moment) = true
rests_on_past _ = false

-- whatever the past of a run, of these steps one that explains what was shown, the step leads with this reply from what
-- was shown before to what is shown after
abbrev pub StepReplies : declared_step.Step → declared_reply.Reply → Shown → Shown → Type 0
StepReplies s r old new = (past : Past) → (rests_on_past s ≡ true → AreTablesExplained old past)
    → (later : Past) × IsStep s r (record { shown = old; past = past }) (record { shown = new; past = later })
