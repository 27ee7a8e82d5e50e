-- What a command makes of a pool, by the pool's only handle.
use Rattle.std.specs.Prelude.{ℕ, ◌≡◌, IsTrue, List, Option, true}
use Rattle.base.specs.declared.names.TxId.{TxId}
use Rattle.base.specs.declared.operation.Shape.{Shape}
use Rattle.base.specs.declared.step.Step as declared_step
use Rattle.base.specs.declared.step.Reply as declared_reply
use Rattle.device_model.specs.MemState.{MemState}
use Rattle.device_model.specs.contracts.memory.MemDeviceSectorDevice.TheImpl.{ghosts}
use Rattle.pool_threads.specs.Answers.{Makes}
use Rattle.pool_threads.specs.Handles.{HasLooked, IsBackIn, IsLeftBehind, kin_left, moment_of, owned_of}
use Rattle.pool_threads.specs.Turns.{dated}
use Rattle.pool_threads.specs.Views.{GrowsTo, IsPoolStep, SeenPool}
use Rattle.pool_threads.specs.declared.handle.Handle.{Handle}
use Rattle.pool_threads.specs.declared.handle.LastSeen.{LastSeen}
use Rattle.pool_threads.specs.declared.owned.OwnedPool.{OwnedPool}
use Rattle.scripts.specs.PoolSteps.{Asks}
use Rattle.script_lines.specs.declared.command.PoolCommand.{PoolCommand}
use Rattle.script_sessions.specs.Plans.{plan_named, plan_seen}
use Rattle.script_sessions.specs.declared.begun_plans.BegunPlan.{BegunPlan}
use Rattle.script_sessions.specs.declared.pool_caller.PoolCaller.{PoolCaller}
use Rattle.word_lock.specs.Seats.{seen}

abbrev pub OwnedMemPool : Type 0
OwnedMemPool = OwnedPool MemState ghosts

-- what the handle of the last command had seen as it left
abbrev pub LastOfMem : Type 0
LastOfMem = LastSeen MemState ghosts

module _ {W : Type 0} where
  -- in one turn of the handle, and in no other, the step is made, with the pool's moment if it starts a sync
  abbrev pub CallsStep : declared_step.Step → declared_reply.Reply → PoolCaller W → PoolCaller W → Type 0
  CallsStep s r old new = (new.plans ≡ old.plans) × Makes (dated (moment_of old.handle) s) r old.handle new.handle

  -- the plan that a transaction of this name began with, of those that the caller has
  abbrev pub plan_begun : TxId → PoolCaller W → Option (List Shape)
  plan_begun tx c = plan_named tx c.plans.now.plans.items

-- a step with its reply leads from one view of a pool to the next; if it starts a sync it gets this moment
abbrev pub StepsTo : ℕ → declared_step.Step → declared_reply.Reply → SeenPool → SeenPool → Type 0
StepsTo moment s r v w = IsPoolStep (IsTrue true) (dated moment s) r v w

-- What a command makes of a pool whose syncs get the first moment, as a session makes it that owns its pool. Nothing
-- lies between: the first step is made on the one view, each other one on what the step before it left, and the last
-- leaves the other view.
abbrev pub AsksNext : ℕ → PoolCommand → ℕ → declared_reply.Reply → SeenPool → SeenPool → Type 0
AsksNext in_pool asked moment reply v w = Asks (StepsTo in_pool) plan_seen asked moment reply v w

-- The only handle of the pool goes on from what the handle of the command before had seen, makes what this command
-- asks for, in turns of its own, and leaves. It is the only one still.
pub record AsksByHandle (W : Type 0) (asked : PoolCommand) (moment : ℕ) (plans : List BegunPlan) (pool : OwnedMemPool) (last : LastOfMem) (reply : declared_reply.Reply) (later : LastOfMem) : Type 0 where
  pub before : PoolCaller W
  pub after : PoolCaller W
  pub back : IsBackIn (owned_of pool) last before.handle
  pub plans_are : before.plans.now.plans.items ≡ plans
  pub asks : Asks CallsStep plan_begun asked moment reply before after
  pub onward : GrowsTo (IsTrue true) (seen last.seat) (seen later.seat)
  pub only : kin_left last ≡ 0
  pub still_only : kin_left later ≡ 0
  pub left : IsLeftBehind after.handle later

-- the handle went on from there, had one turn, in which it left what it saw as it was, and left again
pub record LooksBehind (pool : OwnedMemPool) (last later : LastOfMem) : Type 0 where
  pub before : Handle MemState ghosts
  pub after : Handle MemState ghosts
  pub back : IsBackIn (owned_of pool) last before
  pub looked : HasLooked before after
  pub left : IsLeftBehind after later
