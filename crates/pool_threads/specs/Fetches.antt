-- What a handle does for one fetch: in one turn it locks a range as a reader, reads it, and unlocks it. Before that it may
-- have had turns in which the lock was refused.
use Rattle.std.specs.Prelude.{ℕ, ◌≡◌, ◌⊎◌, IsTrue, List, None, Ok, Err, Option, Result, Some}
use Rattle.base.specs.declared.error.PoolError.{PoolError}
use Rattle.base.specs.declared.error.PoolError.TheVariants as error
use Rattle.base.specs.declared.names.LockId.{LockId}
use Rattle.base.specs.declared.names.ObjectId.{ObjectId}
use Rattle.base.specs.declared.names.Owner.{Owner}
use Rattle.base.specs.declared.range.Mode.TheVariants.{Reader}
use Rattle.base.specs.declared.range.Range.{Range}
use Rattle.base.specs.declared.step.Step as declared_step
use Rattle.base.specs.declared.step.Step.TheVariants as step
use Rattle.base.specs.declared.step.Reply.TheVariants as reply
use Rattle.base.specs.steps.Refusals.{object_range}
use Rattle.base.specs.steps.Runs.{reply_of}
use Rattle.base.specs.steps.Steps.{State}
use Rattle.device_model.specs.declared.device.SectorDevice.{Ghosts}
use Rattle.pool_threads.specs.declared.handle.Handle.{Handle}
use Rattle.pool_threads.specs.Answers.{IsRefusal, Sees, TakesAtLast}
use Rattle.pool_threads.specs.Handles.{kin_of}
use Rattle.pool_threads.specs.Vain.{IsInOwnWay}
use Rattle.pool_threads.specs.Views.{IsPoolStep, SeenPool, viewed_state}
use Rattle.word_lock.specs.declared.rule.Turn.{Turn}

-- the step that locks a range for reading
abbrev pub reader_step : Owner → ObjectId → Range → declared_step.Step
reader_step owner object range = step.Lock owner object range Reader

-- a lock of the owner keeps it from reading the range, of what this view shows
abbrev pub KeepsFromReading : Owner → ObjectId → Range → SeenPool → Type 0
KeepsFromReading owner object range v = IsInOwnWay owner (object_range object.0 range.low range.high) Reader (viewed_state v).shown

module _ (keeps : Type 0) (owner : Owner) (object : ObjectId) (range : Range) where
  -- These steps were made and no others: the range was locked for a reader, read with this result, and unlocked, with
  -- some answer.
  pub record ReadsUnderLock (result : Result (List ℕ) PoolError) (v w : SeenPool) : Type 0 where
    pub id : LockId
    pub locked : SeenPool
    pub locks : IsPoolStep keeps (reader_step owner object range) (reply.Locked id) v locked
    pub read : SeenPool
    pub reads : IsPoolStep keeps (step.Read owner object range) (reply_of (λ bytes. reply.Bytes bytes) result) locked read
    pub answer : Result (Unit {0}) PoolError
    pub unlocks : IsPoolStep keeps (step.Unlock owner id) (reply_of (λ _. reply.Done) answer) read w

  -- the lock was refused so, and no other step was made
  abbrev pub IsRefusedLock : PoolError → SeenPool → SeenPool → Type 0
  IsRefusedLock e v w = IsPoolStep keeps (reader_step owner object range) (reply.Refused e) v w

  -- What is made for a fetch with this result: all of it, or a lock that is refused, `Busy` only by one of its own owner.
  -- Without a result it is made again: the lock was refused `Busy`, and none of its own owner stands in its way.
  abbrev pub MakesFetch : Option (Result (List ℕ) PoolError) → SeenPool → SeenPool → Type 0
  MakesFetch None v w = IsRefusedLock error.Busy v w × (KeepsFromReading owner object range w → ⊥)
  MakesFetch (Some (Ok bytes)) v w = ReadsUnderLock (Ok bytes) v w
  MakesFetch (Some (Err e)) v w = (IsRefusedLock e v w × (e ≡ error.Busy → KeepsFromReading owner object range w)) ⊎ ReadsUnderLock (Err e) v w

  -- in this turn that was made
  abbrev pub IsFetchTurn : Option (Result (List ℕ) PoolError) → Turn SeenPool → Type 0
  IsFetchTurn result t = MakesFetch result t.took t.left

-- a refusal of the lock or of the read
abbrev pub IsFetchRefusal : Owner → ObjectId → Range → PoolError → State → State → Type 0
IsFetchRefusal owner object range e before after = IsRefusal (reader_step owner object range) e before after ⊎ IsRefusal (step.Read owner object range) e before after

-- all that is shown of the pool is as it was, except for the name of the next lock
abbrev pub ShowsSame : State → State → Type 0
ShowsSame before after = after.shown ≡ record before.shown { next_lock = after.shown.next_lock }

module _ {Dev : Type 0} {G : Ghosts Dev} where
  -- The handle made the fetch in one turn, with this result, after turns in which its lock was refused. It had no other
  -- turn.
  abbrev pub Fetches : Owner → ObjectId → Range → Result (List ℕ) PoolError → Handle Dev G → Handle Dev G → Type 0
  Fetches owner object range result =
      TakesAtLast (IsFetchTurn (IsTrue G.keeps_model) owner object range None) (IsFetchTurn (IsTrue G.keeps_model) owner object range (Some result))

  -- The only handle of a pool has left no lock of its own, and all else as it was.
  abbrev pub LeavesNoLock : Handle Dev G → Handle Dev G → Type 0
  LeavesNoLock old new = kin_of old ≡ 0 → Sees ShowsSame old new
