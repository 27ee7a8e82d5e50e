-- The device calls of a step.
use Rattle.std.specs.Prelude.{◌≡◌, List, [], ◌∷◌, Result, Ok, Err, IsTrue}
use Rattle.base.specs.declared.error.PoolError.{PoolError}
use Rattle.base.specs.declared.refused.RefusedCalls.{RefusedCalls}
use Rattle.base.specs.declared.step.Step as declared_step
use Rattle.base.specs.declared.step.Step.TheVariants as step
use Rattle.base.specs.declared.step.Reply as declared_reply
use Rattle.base.specs.declared.step.Reply.TheVariants as reply
use Rattle.base.specs.disk.Calls.{Flushes, counted}
use Rattle.base.specs.steps.Runs.{reply_of}
use Rattle.device_model.specs.declared.device.SectorDevice.{Ghosts}
use Rattle.pool_core.specs.declared.state.PoolState.{PoolState}
use Rattle.pool_core.specs.KeptSafe.{disk_of}
use Rattle.pool_core.specs.States.{device_of, shown}
use Rattle.pool_tables.specs.LogBlocks.{WritesLogBlock}
use Rattle.pool_tables.specs.NextCalls.{MakesNextOf}

-- a reply as an answer, without its value
abbrev pub answer_in : declared_reply.Reply → Result (Unit {0}) PoolError
answer_in (reply.Refused e) = Err e
answer_in _ = Ok tt

-- and an answer that is a reply or a refusal, as a reply
abbrev pub reply_in : Result declared_reply.Reply PoolError → declared_reply.Reply
reply_in answer = reply_of (λ (r : declared_reply.Reply). r) answer

-- the refused calls of a device after some replies
abbrev pub counted_in_turn : List declared_reply.Reply → RefusedCalls → RefusedCalls
counted_in_turn [] calls = calls
counted_in_turn (r ∷ rs) calls = counted_in_turn rs (counted (answer_in r) calls)

module _ {Dev : Type 0} {G : Ghosts Dev} where
  -- a step of a sync makes the next device call of the running sync
  abbrev pub CallsNext : Result (Unit {0}) PoolError → PoolState Dev G → PoolState Dev G → Type 0
  CallsNext answer old new = MakesNextOf (IsTrue G.keeps_model) G.disk old.pool answer (device_of old) (device_of new)

  -- a log write hands the next log block to the device, by what it replied
  abbrev pub WritesBlock : declared_reply.Reply → PoolState Dev G → PoolState Dev G → Type 0
  WritesBlock (reply.Logged count) old new = WritesLogBlock (Ok count) (shown old) (shown new) (disk_of old) (disk_of new)
  WritesBlock (reply.Refused e) old new = WritesLogBlock (Err e) (shown old) (shown new) (disk_of old) (disk_of new)
  WritesBlock _ old new = disk_of new ≡ disk_of old

  -- a log flush flushes it, a read, a digest and the start of a sync keep its disk, and each other step makes no call
  abbrev pub CallsDevice : declared_step.Step → declared_reply.Reply → PoolState Dev G → PoolState Dev G → Type 0
  CallsDevice step.SyncStep r old new = CallsNext (answer_in r) old new
  CallsDevice step.LogWrite r old new = IsTrue G.keeps_model → WritesBlock r old new
  CallsDevice step.LogFlush r old new = IsTrue G.keeps_model → Flushes (disk_of old) (answer_in r) (disk_of new)
  CallsDevice (step.Read owner object range) r old new = IsTrue G.keeps_model → disk_of new ≡ disk_of old
  CallsDevice step.Digest r old new = IsTrue G.keeps_model → disk_of new ≡ disk_of old
  CallsDevice (step.StartSync moment) r old new = IsTrue G.keeps_model → disk_of new ≡ disk_of old
  CallsDevice _ r old new = device_of new ≡ device_of old
