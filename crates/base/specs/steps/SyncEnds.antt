-- When a started sync ends, and what a suspended pool replies.
use Rattle.std.specs.Prelude.{ℕ, zero, suc, ◌≡◌, ◌≤◌, Bool, true, false, List, [], ◌∷◌, length, map, replicate, take, All, Some}
use Rattle.base.specs.declared.error.PoolError.TheVariants as error
use Rattle.base.specs.declared.step.Step as declared_step
use Rattle.base.specs.declared.step.Step.TheVariants as step
use Rattle.base.specs.declared.step.Reply.{Reply}
use Rattle.base.specs.declared.step.Reply.TheVariants as reply
use Rattle.base.specs.steps.Shown.{Shown, SyncPlan, is_durable, status_of}
use Rattle.base.specs.steps.Steps.{State}
use Rattle.base.specs.steps.Tables.{IsRun, GoesOn}

abbrev pub is_refusal : Reply → Bool
is_refusal (reply.Refused e) = true
is_refusal _ = false

abbrev pub IsAnswer : Reply → Type 0
IsAnswer r = is_refusal r ≡ false

-- the reply to a step of a group's sync after which so many are left
abbrev pub reply_with_left : ℕ → ℕ → Reply
reply_with_left group zero = reply.Synced (record { 0 = group })
reply_with_left group (suc left) = reply.More

-- the replies to all steps of a sync that has so many left
abbrev pub sync_replies : ℕ → ℕ → List Reply
sync_replies group zero = []
sync_replies group (suc left) = reply_with_left group left ∷ sync_replies group left

-- Steps of a started sync that are not refused answer that there is more, and the last of those that the sync has, and
-- no other, that its group is synced.
abbrev pub SyncsEndOnTime : Type 0
SyncsEndOnTime = (s new : State) (group : ℕ) (plan : SyncPlan) (replies : List Reply) → s.shown.suspended ≡ false → s.shown.line.syncing ≡ Some group → s.shown.sync ≡ Some plan
    → IsRun ⊥ (replicate (length replies) step.SyncStep) replies s new → All IsAnswer replies → length replies ≤ plan.steps_left
    → replies ≡ take (length replies) (sync_replies group plan.steps_left)

-- a suspended pool stays as it is, whatever the steps
abbrev pub SuspendedPoolsStay : Type 0
SuspendedPoolsStay = (s new : State) → s.shown.suspended ≡ true → GoesOn s new → new ≡ s

-- what it replies: its name, its status, whether a receipt is durable, and to each other step that it is suspended
abbrev pub suspended_reply : Shown → declared_step.Step → Reply
suspended_reply s step.Name = reply.Name s.contents.name
suspended_reply s step.Status = reply.Status (status_of s)
suspended_reply s (step.Durable receipt) = reply.Durable (is_durable s receipt.ordinal.0 receipt.group.0)
suspended_reply s _ = reply.Refused error.Suspended

-- it refuses each step but the three that only tell something of the pool
abbrev pub SuspendedPoolsRefuse : Type 0
SuspendedPoolsRefuse = (steps : List declared_step.Step) (replies : List Reply) (s new : State) → s.shown.suspended ≡ true → IsRun ⊥ steps replies s new
    → replies ≡ map (suspended_reply s.shown) steps
