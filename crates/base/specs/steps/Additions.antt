-- What a step makes of the past of a run: a function of the step, its reply and the state before it.
use Rattle.std.specs.Prelude.{ℕ, ◌≡◌, ◌++◌, List, [], ◌∷◌}
use Rattle.base.specs.declared.range.Mode.TheVariants.{Writer}
use Rattle.base.specs.declared.step.Step as declared_step
use Rattle.base.specs.declared.step.Step.TheVariants as step
use Rattle.base.specs.declared.step.Reply as declared_reply
use Rattle.base.specs.declared.step.Reply.TheVariants as reply
use Rattle.base.specs.history.Past.{Past, Grows, ordinals_of}
use Rattle.base.specs.steps.Refusals.{object_range}
use Rattle.base.specs.steps.Runs.{Step}
use Rattle.base.specs.steps.Steps.{State, ordinals_awaiting}
use Rattle.base.specs.steps.Tables.{IsRun}

-- The past after a step. A commit adds its entry, a lock its grant, an unlock the name that is released, a begin its
-- admission and an abort the name of its transaction. Two steps acknowledge entries: the one that answers that a group
-- is synced those of that group, and a good flush of the log those whose records awaited one. No refusal adds anything.
abbrev pub past_after : declared_step.Step → declared_reply.Reply → State → Past
past_after (step.Lock owner n range mode) (reply.Locked id) s =
    record s.past { grants = s.past.grants ++ record { id = id.0; owner = owner.0; range = object_range n.0 range.low range.high; mode = mode } ∷ [] }
past_after (step.LockAppend owner n) (reply.Appended id range) s =
    record s.past { grants = s.past.grants ++ record { id = id.0; owner = owner.0; range = object_range n.0 range.low range.high; mode = Writer } ∷ [] }
past_after (step.Unlock owner id) reply.Done s = record s.past { let_go = s.past.let_go ++ id.0 ∷ [] }
past_after (step.Begin owner plan) (reply.Began tx group) s =
    record s.past { admissions = s.past.admissions ++ record { tx = tx.0; group = group.0; owner = owner.0; plan = plan } ∷ [] }
past_after (step.Commit tx ops) (reply.Committed receipt) s =
    record s.past { entries = s.past.entries ++ record { group = receipt.group.0; tx = tx.0; ops = ops } ∷ [] }
past_after (step.Abort tx) reply.Done s = record s.past { aborted = s.past.aborted ++ tx.0 ∷ [] }
past_after step.SyncStep (reply.Synced group) s =
    record s.past { acknowledged = s.past.acknowledged ++ ordinals_of group.0 s.past.entries }
past_after step.LogFlush reply.Flushed s = record s.past { acknowledged = s.past.acknowledged ++ ordinals_awaiting s.shown.log }
past_after _ _ s = s.past

-- after each step, over whichever device, the past is that one
abbrev pub PastsAreTold : Type 0
PastsAreTold = (now : List ℕ) (step : declared_step.Step) (reply : declared_reply.Reply) (old new : State) → Step ⊥ now step reply old new
    → new.past ≡ past_after step reply old

-- so from step to step the past only grows
abbrev pub PastsGrow : Type 0
PastsGrow = (steps : List declared_step.Step) (replies : List declared_reply.Reply) (old new : State) → IsRun ⊥ steps replies old new
    → Grows old.past new.past
