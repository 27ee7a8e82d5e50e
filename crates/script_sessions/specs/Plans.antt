-- The plans of the transactions that a session began, and what a command changes of them.
use Rattle.std.specs.Prelude.{◌≡◌, ◌<◌, ◌++◌, Bool, true, false, not, List, [], ◌∷◌, Option, filter, nat_eq, vec_capacity, vec_len}
use Rattle.std.specs.Global.{Vec}
use Rattle.std.specs.List.{find}
use Rattle.std.specs.Option.{option_map}
use Rattle.base.specs.declared.names.TxId.{TxId}
use Rattle.base.specs.declared.operation.Shape.{Shape}
use Rattle.base.specs.declared.step.Step.TheVariants as step
use Rattle.base.specs.declared.step.Reply.{Reply}
use Rattle.base.specs.declared.step.Reply.TheVariants as reply
use Rattle.base.specs.steps.Groups.{Admission}
use Rattle.base.specs.steps.Refusals.{transaction_of}
use Rattle.pool_threads.specs.Views.{SeenPool, viewed_state}
use Rattle.script_lines.specs.declared.command.PoolCommand.{PoolCommand}
use Rattle.script_lines.specs.declared.command.PoolCommand.TheVariants as command
use Rattle.script_sessions.specs.declared.begun_plans.BegunPlan.{BegunPlan}
use Rattle.script_sessions.specs.declared.begun_plans.PlanChange.{PlanChange}
use Rattle.script_sessions.specs.declared.begun_plans.PlanChange.TheVariants.{Nothing, Begins, Ends}

abbrev pub is_of : TxId → BegunPlan → Bool
is_of tx b = nat_eq b.tx.0 tx.0

-- the plan that a transaction of this name began with
abbrev pub plan_named : TxId → List BegunPlan → Option (List Shape)
plan_named tx plans = option_map (λ (b : BegunPlan). b.plan) (find (is_of tx) plans)

-- the plan of an open transaction that is seen of a pool
abbrev pub plan_seen : TxId → SeenPool → Option (List Shape)
plan_seen tx v = option_map (λ (a : Admission). a.plan) (transaction_of tx.0 (viewed_state v).shown)

-- these are the plans of the transactions that are open, each under its name
abbrev pub ArePlansOf : List BegunPlan → SeenPool → Type 0
ArePlansOf plans v = (tx : TxId) → plan_named tx plans ≡ plan_seen tx v

abbrev pub plans_without : TxId → List BegunPlan → List BegunPlan
plans_without tx plans = filter (λ b. not (is_of tx b)) plans

-- a begin may begin a transaction with its plan, and a commit and an abort may end one
abbrev pub change_of : PoolCommand → PlanChange
change_of (command.Commit tx contents) = Ends tx
change_of (command.Step (step.Commit tx ops)) = Ends tx
change_of (command.Step (step.Abort tx)) = Ends tx
change_of (command.Step (step.Begin owner plan)) = Begins plan
change_of asked = Nothing

-- a begin may begin one
abbrev pub is_begin : PoolCommand → Bool
is_begin (command.Step (step.Begin owner plan)) = true
is_begin asked = false

-- the plans after a reply to a command that may change this
abbrev pub plans_after : PlanChange → Reply → List BegunPlan → List BegunPlan
plans_after (Begins plan) (reply.Began tx group) plans = plans ++ (record { tx = tx; plan = plan }) ∷ []
plans_after (Ends tx) (reply.Committed receipt) plans = plans_without tx plans
plans_after (Ends tx) reply.Done plans = plans_without tx plans
plans_after change given plans = plans

-- there is room for a plan that may be kept
abbrev pub HasRoomForPlan : PlanChange → Vec BegunPlan → Type 0
HasRoomForPlan Nothing plans = Unit {0}
HasRoomForPlan (Begins plan) plans = vec_len plans < vec_capacity plans
HasRoomForPlan (Ends tx) plans = Unit {0}
