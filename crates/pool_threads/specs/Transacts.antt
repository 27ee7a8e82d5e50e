-- What a handle does for one transaction: in one turn it locks ranges, begins, commits or aborts, and unlocks. Before
-- that it may have had turns in which it tried so, and turns in which it made steps of a sync.
use Rattle.std.specs.Prelude.{ℕ, ◌≡◌, ◌==◌, ◌&&◌, ◌||◌, ◌⊎◌, ◌++◌, All, Bool, false, IsTrue, List, [], ◌∷◌, map, None, not, Ok, Err, Option, Result, Some, true}
use Rattle.std.specs.List.{list_any}
use Rattle.base.specs.declared.error.PoolError.{PoolError}
use Rattle.base.specs.declared.error.PoolError.TheVariants as error
use Rattle.base.specs.declared.names.Group.{Group}
use Rattle.base.specs.declared.names.LockId.{LockId}
use Rattle.base.specs.declared.names.Owner.{Owner}
use Rattle.base.specs.declared.names.Receipt.{Receipt}
use Rattle.base.specs.declared.names.TxId.{TxId}
use Rattle.base.specs.declared.operation.Op.{Op}
use Rattle.base.specs.declared.operation.Shape.{Shape}
use Rattle.base.specs.declared.range.Mode.TheVariants.{Writer}
use Rattle.base.specs.declared.range.ObjectRange.{ObjectRange}
use Rattle.base.specs.declared.step.Step as declared_step
use Rattle.base.specs.declared.step.Step.TheVariants as step
use Rattle.base.specs.declared.step.Reply as declared_reply
use Rattle.base.specs.declared.step.Reply.TheVariants as reply
use Rattle.base.specs.history.Plans.{number_range, shape_of}
use Rattle.base.specs.steps.Runs.{reply_of}
use Rattle.base.specs.steps.Seen.{IsCommitted}
use Rattle.base.specs.steps.Shown.{Shown, dirty_total}
use Rattle.base.specs.steps.Steps.{State}
use Rattle.device_model.specs.declared.device.SectorDevice.{Ghosts}
use Rattle.pool_tables.specs.BeginTests.{is_above_limit}
use Rattle.pool_tables.specs.Duties.{keeps_whole_log}
use Rattle.pool_tables.specs.declared.duty.Duty.TheVariants as duty
use Rattle.pool_threads.specs.declared.handle.Handle.{Handle}
use Rattle.range_locks.specs.Locks.{is_blocked_by_own}
use Rattle.pool_threads.specs.Answers.{IsRefusal, Sees, TakesAtLast, TakesOne}
use Rattle.pool_threads.specs.Handles.{kin_of, moment_of, turns_of}
use Rattle.pool_threads.specs.Serves.{GoesOnAfter, IsServedTurn}
use Rattle.pool_threads.specs.Views.{IsPoolStep, SeenPool, viewed_state}
use Rattle.pool_threads.specs.Waits.{IsSyncingRefusal, WaitsForFlush}
use Rattle.transactions.specs.LockRanges.{lock_ranges}
use Rattle.transactions.specs.Open.{has_one_open}
use Rattle.word_lock.specs.declared.rule.Turn.{Turn}

-- the step that locks a range for writing
abbrev pub lock_step : Owner → ObjectRange → declared_step.Step
lock_step owner r = step.Lock owner r.object r.range Writer

-- the plan of operations
abbrev pub plan_of_ops : List Op → List Shape
plan_of_ops ops = map shape_of ops

module _ (keeps : Type 0) where
  -- these ranges were locked in order, with these locks
  abbrev pub Locks : Owner → List ObjectRange → List LockId → SeenPool → SeenPool → Type 0
  Locks owner [] [] v w = w ≡ v
  Locks owner (r ∷ rs) (id ∷ ids) v w = (next : SeenPool) × IsPoolStep keeps (lock_step owner r) (reply.Locked id) v next × Locks owner rs ids next w
  Locks owner [] (id ∷ ids) v w = ⊥
  Locks owner (r ∷ rs) [] v w = ⊥

  -- The first of these ranges were locked, with these locks, and then one was refused.
  pub record StopsAtLock (owner : Owner) (ranges : List ObjectRange) (ids : List LockId) (e : PoolError) (v w : SeenPool) : Type 0 where
    pub locked : List ObjectRange
    pub range : ObjectRange
    pub rest : List ObjectRange
    pub ranges_are : ranges ≡ locked ++ range ∷ rest
    pub middle : SeenPool
    pub locks : Locks owner locked ids v middle
    pub refused : IsPoolStep keeps (lock_step owner range) (reply.Refused e) middle w

  -- all were locked, or one was refused
  abbrev pub LocksAll : Owner → List ObjectRange → List LockId → Result (Unit {0}) PoolError → SeenPool → SeenPool → Type 0
  LocksAll owner ranges ids (Ok done) v w = Locks owner ranges ids v w
  LocksAll owner ranges ids (Err e) v w = StopsAtLock owner ranges ids e v w

  -- all were locked, and then a transaction of this plan was begun, or was refused
  abbrev pub LocksAndBegins : Owner → List ObjectRange → List Shape → List LockId → Result TxId PoolError → SeenPool → SeenPool → Type 0
  LocksAndBegins owner ranges plan ids (Ok tx) v w =
      (locked : SeenPool) × Locks owner ranges ids v locked × ((group : Group) × IsPoolStep keeps (step.Begin owner plan) (reply.Began tx group) locked w)
  LocksAndBegins owner ranges plan ids (Err e) v w =
      StopsAtLock owner ranges ids e v w ⊎ ((locked : SeenPool) × Locks owner ranges ids v locked × IsPoolStep keeps (step.Begin owner plan) (reply.Refused e) locked w)

  -- the transaction was committed with these operations; or the commit was refused, and then it was aborted
  abbrev pub Ends : TxId → List Op → Result Receipt PoolError → SeenPool → SeenPool → Type 0
  Ends tx ops (Ok receipt) v w = IsPoolStep keeps (step.Commit tx ops) (reply.Committed receipt) v w
  Ends tx ops (Err e) v w =
      (failed : SeenPool) × IsPoolStep keeps (step.Commit tx ops) (reply.Refused e) v failed × ((answer : Result (Unit {0}) PoolError) × IsPoolStep keeps (step.Abort tx) (reply_of (λ _. reply.Done) answer) failed w)

  -- A transaction was begun under these locks, and ended so.
  pub record BeginsAndEnds (owner : Owner) (ranges : List ObjectRange) (plan : List Shape) (ops : List Op) (ids : List LockId) (result : Result Receipt PoolError) (v w : SeenPool) : Type 0 where
    pub tx : TxId
    pub begun : SeenPool
    pub begins : LocksAndBegins owner ranges plan ids (Ok tx) v begun
    pub ends : Ends tx ops result begun w

  -- it was so, or a lock or the begin was refused
  abbrev pub LocksAndEnds : Owner → List ObjectRange → List Shape → List Op → List LockId → Result Receipt PoolError → SeenPool → SeenPool → Type 0
  LocksAndEnds owner ranges plan ops ids (Ok receipt) v w = BeginsAndEnds owner ranges plan ops ids (Ok receipt) v w
  LocksAndEnds owner ranges plan ops ids (Err e) v w = LocksAndBegins owner ranges plan ids (Err e) v w ⊎ BeginsAndEnds owner ranges plan ops ids (Err e) v w

  -- each of these was unlocked in order, with some answer
  abbrev pub Unlocks : Owner → List LockId → SeenPool → SeenPool → Type 0
  Unlocks owner [] v w = w ≡ v
  Unlocks owner (id ∷ ids) v w =
      (next : SeenPool) × (answer : Result (Unit {0}) PoolError) × IsPoolStep keeps (step.Unlock owner id) (reply_of (λ _. reply.Done) answer) v next × Unlocks owner ids next w

  -- These steps were made and no others: the ranges were locked, a transaction of this plan was begun and committed,
  -- and all was unlocked. The first refusal is the result: then what was begun was aborted, and what was locked was
  -- unlocked.
  pub record MakesTransaction (owner : Owner) (ranges : List ObjectRange) (plan : List Shape) (ops : List Op) (result : Result Receipt PoolError) (v w : SeenPool) : Type 0 where
    pub ids : List LockId
    pub ended : SeenPool
    pub ends : LocksAndEnds owner ranges plan ops ids result v ended
    pub unlocks : Unlocks owner ids ended w

-- a refusal of a begin for want of room: a sync may make some
abbrev pub IsWantOfRoom : PoolError → Type 0
IsWantOfRoom e = (e ≡ error.Throttled) ⊎ (e ≡ error.NoSpace)

-- a refusal after which a transaction may be tried again: for want of room, and `Busy` if it locks ranges itself
abbrev pub IsRetried : List ObjectRange → PoolError → Type 0
IsRetried [] e = IsWantOfRoom e
IsRetried (r ∷ rs) e = (e ≡ error.Busy) ⊎ IsWantOfRoom e

-- whether a lock that the owner holds itself overlaps one of these ranges
abbrev pub is_in_own_way : Owner → List ObjectRange → Shown → Bool
is_in_own_way owner ranges s =
    list_any (λ (r : ObjectRange). is_blocked_by_own owner.0 (number_range r) Writer s.locks) ranges

-- Whether a transaction that was refused so waits in vain. Its owner holds a lock on a range of it, or has a
-- transaction open, which only the owner itself ends. Or no sync makes room: the plan's charge alone is above the dirty
-- limit, or there is no space, no transaction is unsynced, and no log block comes back.
abbrev pub is_in_vain : Owner → List ObjectRange → List Shape → PoolError → Shown → Bool
is_in_vain owner ranges plan error.Busy s = is_in_own_way owner ranges s
is_in_vain owner ranges plan error.Throttled s = is_above_limit plan s || has_one_open owner.0 s.transactions
is_in_vain owner ranges plan error.NoSpace s = ((dirty_total s == 0) && not (keeps_whole_log s)) || has_one_open owner.0 s.transactions
is_in_vain owner ranges plan _ s = false

-- a refusal after which it is tried again, by what the pool shows after that turn
abbrev pub MayPass : Owner → List ObjectRange → List Shape → PoolError → Shown → Type 0
MayPass owner ranges plan e s = IsRetried ranges e × (is_in_vain owner ranges plan e s ≡ false)

-- one after which it isn't
abbrev pub IsForGood : Owner → List ObjectRange → List Shape → PoolError → Shown → Type 0
IsForGood owner ranges plan e s = IsRetried ranges e → is_in_vain owner ranges plan e s ≡ true

-- what was due for a sync of the groups up to the one that was open as this turn began, with this moment, was done in
-- it, the last step with this reply
abbrev pub IsOpenGroupTurn : Type 0 → ℕ → Option declared_reply.Reply → Turn SeenPool → Type 0
IsOpenGroupTurn keeps moment r t = (group : Group) × (group.0 ≡ (viewed_state t.took).shown.line.open_group) × IsServedTurn keeps (duty.SyncUpTo group moment) r t

-- so it was, and nothing was refused; or the last step was refused so
abbrev pub IsPayingTurn : Type 0 → ℕ → Turn SeenPool → Type 0
IsPayingTurn keeps moment t = (r : Option declared_reply.Reply) × GoesOnAfter None r × IsOpenGroupTurn keeps moment r t

abbrev pub IsRefusedPayment : Type 0 → ℕ → PoolError → Turn SeenPool → Type 0
IsRefusedPayment keeps moment e t = IsOpenGroupTurn keeps moment (Some (reply.Refused e)) t

-- in this turn a transaction was made with this result
abbrev pub IsTransactionTurn : Type 0 → Owner → List ObjectRange → List Shape → List Op → Result Receipt PoolError → Turn SeenPool → Type 0
IsTransactionTurn keeps owner ranges plan ops result t = MakesTransaction keeps owner ranges plan ops result t.took t.left

module _ (keeps : Type 0) (moment : ℕ) (owner : Owner) (ranges : List ObjectRange) (plan : List Shape) (ops : List Op) where
  -- in this turn the transaction was tried, and was refused so that it may pass; or steps of a sync were made
  abbrev pub IsEarlierTurn : Turn SeenPool → Type 0
  IsEarlierTurn t = ((e : PoolError) × MayPass owner ranges plan e (viewed_state t.left).shown × IsTransactionTurn keeps owner ranges plan ops (Err e) t) ⊎ IsPayingTurn keeps moment t

  -- the last turn, with this result: that of the transaction, or the refusal of a step of a sync
  abbrev pub IsLastTurn : Result Receipt PoolError → Turn SeenPool → Type 0
  IsLastTurn (Ok receipt) t = IsTransactionTurn keeps owner ranges plan ops (Ok receipt) t
  IsLastTurn (Err e) t = (IsTransactionTurn keeps owner ranges plan ops (Err e) t × IsForGood owner ranges plan e (viewed_state t.left).shown) ⊎ IsRefusedPayment keeps moment e t

module _ {Dev : Type 0} {G : Ghosts Dev} where
  -- The handle made the transaction in one turn, with this result, after turns in which it was tried or steps of a sync
  -- were made. It had no other turn.
  abbrev pub TransactsAtLast : Owner → List ObjectRange → List Shape → List Op → Result Receipt PoolError → Handle Dev G → Handle Dev G → Type 0
  TransactsAtLast owner ranges plan ops result old =
      TakesAtLast (IsEarlierTurn (IsTrue G.keeps_model) (moment_of old) owner ranges plan ops) (IsLastTurn (IsTrue G.keeps_model) (moment_of old) owner ranges plan ops result) old

  -- so it was of operations, under locks of the ranges of their plan
  abbrev pub Transacts : Owner → List Op → Result Receipt PoolError → Handle Dev G → Handle Dev G → Type 0
  Transacts owner ops = TransactsAtLast owner (lock_ranges (plan_of_ops ops)) (plan_of_ops ops) ops

  -- so it was under locks that the owner had before
  abbrev pub TransactsLocked : Owner → List Op → Result Receipt PoolError → Handle Dev G → Handle Dev G → Type 0
  TransactsLocked owner ops = TransactsAtLast owner [] (plan_of_ops ops) ops

  -- it did so, or made no step for want of memory
  abbrev pub TransactsOrLacks : Owner → List Op → Result Receipt PoolError → Handle Dev G → Handle Dev G → Type 0
  TransactsOrLacks owner ops result old new = Transacts owner ops result old new ⊎ ((result ≡ Err error.NoMemory) × (new ≡ old))

  abbrev pub TransactsLockedOrLacks : Owner → List Op → Result Receipt PoolError → Handle Dev G → Handle Dev G → Type 0
  TransactsLockedOrLacks owner ops result old new = TransactsLocked owner ops result old new ⊎ ((result ≡ Err error.NoMemory) × (new ≡ old))

  -- one turn of a sync of the open group: it refused nothing, or a step so
  abbrev pub Pays : ℕ → Result (Unit {0}) PoolError → Handle Dev G → Handle Dev G → Type 0
  Pays moment (Ok done) = TakesOne (IsPayingTurn (IsTrue G.keeps_model) moment)
  Pays moment (Err e) = TakesOne (IsRefusedPayment (IsTrue G.keeps_model) moment e)

  -- it had such a turn, or none
  abbrev pub MakesRoom : ℕ → Result (Unit {0}) PoolError → Handle Dev G → Handle Dev G → Type 0
  MakesRoom moment (Ok done) old new = (new ≡ old) ⊎ Pays moment (Ok tt) old new
  MakesRoom moment (Err e) old new = Pays moment (Err e) old new

-- a transaction committed these operations with this receipt
abbrev pub IsTransacted : List Op → Receipt → State → State → Type 0
IsTransacted ops r before after = (tx : TxId) × IsCommitted tx.0 ops r.ordinal.0 r.group.0 before after

-- a refusal of the begin or of the commit of a transaction, or of a step of a sync with this moment
abbrev pub IsCommitRefusal : ℕ → Owner → List Op → PoolError → State → State → Type 0
IsCommitRefusal moment owner ops e before after =
    IsRefusal (step.Begin owner (plan_of_ops ops)) e before after
    ⊎ (((tx : TxId) × IsRefusal (step.Commit tx ops) e before after) ⊎ ((group : Group) × IsSyncingRefusal moment group e before after))

-- a refusal of a lock, or one of those
abbrev pub IsTransactRefusal : ℕ → Owner → List Op → PoolError → State → State → Type 0
IsTransactRefusal moment owner ops e before after = ((r : ObjectRange) × IsRefusal (lock_step owner r) e before after) ⊎ IsCommitRefusal moment owner ops e before after

-- the held locks and the open transactions are those from before
pub record AreReleased (before after : State) : Type 0 where
  pub locks : after.shown.locks ≡ before.shown.locks
  pub transactions : after.shown.transactions ≡ before.shown.transactions

-- Each of these turns has left the locks that were held as it began, the transactions that were open, and no others.
abbrev pub ReleasesInEach : List (Turn SeenPool) → Type 0
ReleasesInEach = All (λ (t : Turn SeenPool). ∥ AreReleased (viewed_state t.took) (viewed_state t.left) ∥₁)

module _ {Dev : Type 0} {G : Ghosts Dev} where
  -- The handle has left no lock and no transaction of its own in any of its turns. So the only handle of a pool has
  -- left the locks and the transactions that were there before.
  pub record LeavesNothing (old new : Handle Dev G) : Type 0 where
    pub had : List (Turn SeenPool)
    pub turns : turns_of new ≡ turns_of old ++ had
    pub each : ReleasesInEach had
    pub alone : kin_of old ≡ 0 → Sees AreReleased old new

  -- the handle made a transaction with this receipt, in which it left nothing, and then waited for a flush, with this
  -- result
  pub record TransactsThenWaits (owner : Owner) (ops : List Op) (r : Receipt) (result : Result (Unit {0}) PoolError) (old new : Handle Dev G) : Type 0 where
    pub done : Handle Dev G
    pub transacts : TransactsOrLacks owner ops (Ok r) old done
    pub released : LeavesNothing old done
    pub waits : WaitsForFlush r result done new

  -- Its commit is durable; or the wait for it was refused, with its receipt; or the transaction was, without one.
  abbrev pub TransactsDurably : Owner → List Op → Result Receipt (PoolError × Option Receipt) → Handle Dev G → Handle Dev G → Type 0
  TransactsDurably owner ops (Ok r) old new = TransactsThenWaits owner ops r (Ok tt) old new
  TransactsDurably owner ops (Err (e, Some r)) old new = TransactsThenWaits owner ops r (Err e) old new
  TransactsDurably owner ops (Err (e, None)) old new = TransactsOrLacks owner ops (Err e) old new × LeavesNothing old new
