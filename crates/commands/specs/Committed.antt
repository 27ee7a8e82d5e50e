-- What a command's handle commits, one transaction after another, and what its history then has of it.
use Rattle.std.specs.Prelude.{ℕ, suc, false, true, ◌≡◌, ◌≢◌, ◌≤◌, ◌⊎◌, ◌*◌, Bool, IsTrue, List, [], ◌∷◌, Ok, Option, Err, Result, Some, is_ok, length, min, slice_get}
use Rattle.std.specs.Io.KnownBytes.{Appends}
use Rattle.base.specs.kept.Imports.{is_dirty_max_allowed}
use Rattle.base.specs.declared.error.PoolError.{PoolError}
use Rattle.base.specs.declared.error.PoolError.TheVariants.{BadGeometry, BadRange, NoSpace}
use Rattle.base.specs.declared.names.Group.{Group}
use Rattle.base.specs.declared.names.ObjectId.{ObjectId}
use Rattle.base.specs.declared.status.Status.{Status}
use Rattle.base.specs.declared.operation.Op.{Op}
use Rattle.base.specs.declared.operation.Op.TheVariants.{Remove}
use Rattle.base.specs.declared.step.Reply.TheVariants as reply
use Rattle.base.specs.declared.step.Step.TheVariants as step
use Rattle.base.specs.disk.Calls.{with_refusal}
use Rattle.base.specs.history.History.{Entry}
use Rattle.base.specs.steps.Runs.{reply_of}
use Rattle.base.specs.steps.Seen.{IsKnownDurable}
use Rattle.base.specs.steps.Steps.{State}
use Rattle.device_model.specs.declared.device.SectorDevice.{Ghosts}
use Rattle.import_replay.specs.ImportRefusals.{IsImportRefusal}
use Rattle.pool_threads.specs.declared.handle.Handle.{Handle}
use Rattle.pool_threads.specs.declared.handle.LastSeen.{LastSeen}
use Rattle.pool_threads.specs.declared.shared.Shared.{Shared}
use Rattle.pool_threads.specs.Answers.{Makes, Sees}
use Rattle.pool_threads.specs.Handles.{IsLeftBehind, IsLeftByOpen, LeavesSame, OpensBehind, opening_view}
use Rattle.pool_threads.specs.LongWrites.{piece_size}
use Rattle.pool_threads.specs.Waits.{SyncsPool}
use Rattle.running_pools.specs.Commits.{MakesFirst}
use Rattle.running_pools.specs.LeftDevices.{IsOnlyHandle}
use Rattle.read_commands.specs.Failures.{IsFailureFor}
use Rattle.commands.specs.PutRoom.{lacks_room}
use Rattle.commands.specs.Puts.{bad_number_of, is_target, put_line, put_transactions, start_of}
use Rattle.read_commands.specs.declared.failure.Failure.{Failure}
use Rattle.read_commands.specs.declared.failure.Failure.TheVariants as failure
use Rattle.commands.specs.declared.changes.Put.{Put}
use Rattle.commands.specs.declared.changes.Start.{Start}

-- `DEFAULT_DIRTY_MAX`, with which a command opens its pool
abbrev pub default_dirty_max : ℕ
default_dirty_max = 4194304

-- These transactions are entries of the history, in this order, each with its operations alone. The first is at this
-- ordinal or later. If so is `durable`, no crash loses them.
abbrev pub AreEntered : Type 0 → List (List Op) → ℕ → State → Type 0
AreEntered durable [] from s = Unit {0}
AreEntered durable (ops ∷ rest) from s = (ordinal : ℕ) × (e : Entry) × (from ≤ ordinal) × (slice_get s.past.entries ordinal ≡ Some e) × (e.ops ≡ ops) × (durable → IsKnownDurable ordinal e.group s) × AreEntered durable rest (suc ordinal) s

-- so it is of a later state, and none of them was there in the earlier one
abbrev pub AreNewEntries : Type 0 → List (List Op) → State → State → Type 0
AreNewEntries durable all before after = AreEntered durable all (length before.past.entries) after

-- what is told of a put that was not made
abbrev pub nothing_put : Put
nothing_put = record { bytes = 0; transactions = 0; is_synced = true }

-- the first refusal of some transactions and of the sync after them
abbrev pub result_after : Result (Unit {0}) PoolError → Result Group PoolError → Result (Unit {0}) PoolError
result_after (Ok done) (Err e) = Err e
result_after made synced = made

module _ {Dev : Type 0} {G : Ghosts Dev} where
  -- If none was committed the handle did no more. Else it synced the pool.
  abbrev pub SyncsAfter : Put → Result (Unit {0}) PoolError → Result (Unit {0}) PoolError → Handle Dev G → Handle Dev G → Type 0
  SyncsAfter put made result old new = ((put.transactions ≡ 0) × (result ≡ made) × (new ≡ old))
      ⊎ ((synced : Result Group PoolError) × (put.transactions ≢ 0) × SyncsPool synced old new × (put.is_synced ≡ is_ok synced) × (result ≡ result_after made synced))

  -- The handle made the transactions of a put that starts so, up to the first that was refused. What it tells of them
  -- is their number and the number of their bytes.
  pub record PutsFrom (start : Start) (n : ObjectId) (offset : Option ℕ) (bytes : List ℕ) (put : Put) (result : Result (Unit {0}) PoolError) (old new : Handle Dev G) : Type 0 where
    pub made : Result (Unit {0}) PoolError
    pub done : Handle Dev G
    pub makes : MakesFirst (put_transactions start n offset bytes) put.transactions made old done
    pub size : put.bytes ≡ min (piece_size * put.transactions) (length bytes)
    pub syncs : SyncsAfter put made result done new

  -- so it was; or it lacked room and was refused `NoSpace`, and nothing was put
  abbrev pub PutsIfRoom : Bool → Start → ObjectId → Option ℕ → List ℕ → Put → Result (Unit {0}) PoolError → Handle Dev G → Handle Dev G → Type 0
  PutsIfRoom false start n offset bytes put result old new = PutsFrom start n offset bytes put result old new
  PutsIfRoom true start n offset bytes put result old new = (put.transactions ≡ 0) × (put.bytes ≡ 0) × (result ≡ Err NoSpace) × (new ≡ old)

  -- The handle asked how many blocks are available. It put the bytes, unless they are too few.
  pub record PutsByRoom (start : Start) (found : Result ℕ PoolError) (n : ObjectId) (offset : Option ℕ) (bytes : List ℕ) (put : Put) (result : Result (Unit {0}) PoolError) (old new : Handle Dev G) : Type 0 where
    pub status : Status
    pub asked : Handle Dev G
    pub asks : Makes step.Status (reply.Status status) old asked
    pub puts : PutsIfRoom (lacks_room start offset bytes found status.available) start n offset bytes put result asked new

  -- so it was, or the object's length was refused, and nothing was put
  abbrev pub PutsAsFound : Result Start PoolError → Result ℕ PoolError → ObjectId → Option ℕ → List ℕ → Put → Result (Unit {0}) PoolError → Handle Dev G → Handle Dev G → Type 0
  PutsAsFound (Ok start) found n offset bytes put result old new = PutsByRoom start found n offset bytes put result old new
  PutsAsFound (Err e) found n offset bytes put result old new = (put.transactions ≡ 0) × (put.bytes ≡ 0) × (result ≡ Err e) × (new ≡ old)

  -- The handle looked whether the object is there, and how many blocks are available. Then it put the bytes, and synced
  -- the pool.
  pub record PutsBy (n : ObjectId) (offset : Option ℕ) (bytes : List ℕ) (put : Put) (result : Result (Unit {0}) PoolError) (first last : Handle Dev G) : Type 0 where
    pub found : Result ℕ PoolError
    pub looked : Handle Dev G
    pub looks : Makes (step.Length n) (reply_of (λ count. reply.Length count) found) first looked
    pub puts : PutsAsFound (start_of offset found) found n offset bytes put result looked last

  -- The only handle of this pool did so.
  pub record PutsInto (p : Shared Dev G) (n : ObjectId) (offset : Option ℕ) (bytes : List ℕ) (put : Put) (result : Result (Unit {0}) PoolError) : Type 0 where
    pub first : Handle Dev G
    pub only : IsOnlyHandle p first
    pub last : Handle Dev G
    pub did : PutsBy n offset bytes put result first last

  -- and this is what that handle had seen as it left
  abbrev pub PutsAndLeaves : Shared Dev G → ObjectId → Option ℕ → List ℕ → Put → Result (Unit {0}) PoolError → LastSeen Dev G → Type 0
  PutsAndLeaves p n offset bytes put result left = (puts : PutsInto p n offset bytes put result) × IsLeftBehind puts.last left

  -- If the transaction was committed the handle synced the pool. Else it did no more.
  abbrev pub SyncsIfMade : Result (Unit {0}) PoolError → Result (Unit {0}) PoolError → Handle Dev G → Handle Dev G → Type 0
  SyncsIfMade (Ok done) result old new = (synced : Result Group PoolError) × SyncsPool synced old new × (result ≡ result_after (Ok tt) synced)
  SyncsIfMade (Err e) result old new = (result ≡ Err e) × (new ≡ old)

  -- The only handle of this pool made one transaction that removes the object, and synced the pool after it. It did no
  -- more, and the first refusal is the result.
  pub record RemovesFrom (p : Shared Dev G) (n : ObjectId) (result : Result (Unit {0}) PoolError) : Type 0 where
    pub first : Handle Dev G
    pub only : IsOnlyHandle p first
    pub count : ℕ
    pub made : Result (Unit {0}) PoolError
    pub done : Handle Dev G
    pub makes : MakesFirst ((Remove n ∷ []) ∷ []) count made first done
    pub last : Handle Dev G
    pub syncs : SyncsIfMade made result done last

  -- and this is what that handle had seen as it left
  abbrev pub RemovesAndLeaves : Shared Dev G → ObjectId → Result (Unit {0}) PoolError → LastSeen Dev G → Type 0
  RemovesAndLeaves p n result left = (removes : RemovesFrom p n result) × IsLeftBehind removes.last left

module _ {Dev : Type 0} (G : Ghosts Dev) where
  -- The pool was opened that this device holds, and this is so of it.
  pub record IsOpenedOn (device : Dev) (P : Shared Dev G → Type 0) : Type 0 where
    pub pool : Shared Dev G
    pub opens : OpensBehind (IsTrue G.keeps_model) (G.disk device) default_dirty_max (opening_view pool)
    pub does : P pool

  -- So it is of the states that the only handle of such a pool had seen first and has seen last.
  pub record HappensOn (device : Dev) (P : State → State → Type 0) : Type 0 where
    pub pool : Shared Dev G
    pub opens : OpensBehind (IsTrue G.keeps_model) (G.disk device) default_dirty_max (opening_view pool)
    pub first : Handle Dev G
    pub only : IsOnlyHandle pool first
    pub last : Handle Dev G
    pub sees : Sees P first last

  -- The pool of a device was not opened for this refusal, and the device came back so. If its disk is known it holds
  -- what it held before.
  pub record IsNotOpened (device : Dev) (moment : ℕ) (e : PoolError) : Type 0 where
    pub after : Dev
    pub refused : IsImportRefusal (G.size device) (is_dirty_max_allowed default_dirty_max) e
    pub counted : G.refused after ≡ with_refusal e (G.refused device)
    pub untouched : (e ≡ BadGeometry) ⊎ (e ≡ BadRange) → after ≡ device
    pub given_back : IsTrue G.keeps_model → IsLeftByOpen moment (G.disk device) e (G.disk after)
    pub still_left : IsTrue G.keeps_model → LeavesSame (G.disk device) (G.disk after)

  -- for this failure the pool of a device was not opened
  abbrev pub FailsToOpen : Dev → ℕ → Failure → Type 0
  FailsToOpen device moment why = (e : PoolError) × IsNotOpened device moment e × IsFailureFor e why

  -- the bytes were put into the pool of a device, with this result
  abbrev pub PutsOn : Dev → ObjectId → Option ℕ → List ℕ → Put → Result (Unit {0}) PoolError → Type 0
  PutsOn device n offset bytes put result = IsOpenedOn device (λ (p : Shared Dev G). PutsInto p n offset bytes put result)

  -- the bytes are none that the object may have, and nothing was done
  abbrev pub HasNoTarget : ObjectId → Option ℕ → List ℕ → Failure → Type 0
  HasNoTarget n offset bytes why = (is_target n.0 offset bytes ≡ false) × (why ≡ failure.OutOfRange (bad_number_of n.0 offset bytes))

  -- A put was made with this result, or for this failure none was made. Then it tells that nothing was put.
  abbrev pub PutsOrFails : Dev → ℕ → ObjectId → Option ℕ → List ℕ → Put → Result (Unit {0}) Failure → Type 0
  PutsOrFails device moment n offset bytes put (Ok done) = PutsOn device n offset bytes put (Ok tt)
  PutsOrFails device moment n offset bytes put (Err why) = ((put ≡ nothing_put) × (HasNoTarget n offset bytes why ⊎ FailsToOpen device moment why))
      ⊎ ((e : PoolError) × PutsOn device n offset bytes put (Err e) × IsFailureFor e why)

  -- the engine refused it so
  abbrev pub RefusesPut : Dev → ℕ → ObjectId → Option ℕ → List ℕ → Type 0
  RefusesPut device moment n offset bytes = (put : Put) × (why : Failure) × PutsOrFails device moment n offset bytes put (Err why)

  -- all was put, and the pool was synced
  abbrev pub PutsAll : Dev → ObjectId → Option ℕ → List ℕ → Type 0
  PutsAll device n offset bytes = (put : Put) × PutsOn device n offset bytes put (Ok tt)

  -- all was put, and this was written of it
  pub record PutsAndPrints (device : Dev) (n : ObjectId) (offset : Option ℕ) (bytes : List ℕ) (old new : Option (List ℕ)) : Type 0 where
    pub put : Put
    pub puts : PutsOn device n offset bytes put (Ok tt)
    pub prints : Appends old new (put_line put.bytes put.transactions)

  -- the object was removed from the pool of a device, with this result
  abbrev pub RemovesWith : Dev → ObjectId → Result (Unit {0}) PoolError → Type 0
  RemovesWith device n result = IsOpenedOn device (λ (p : Shared Dev G). RemovesFrom p n result)

  -- so it was, and the pool was synced
  abbrev pub RemovesOn : Dev → ObjectId → Type 0
  RemovesOn device n = RemovesWith device n (Ok tt)

  -- it was, or for this failure it was not
  abbrev pub RemovesOrFails : Dev → ℕ → ObjectId → Result (Unit {0}) Failure → Type 0
  RemovesOrFails device moment n (Ok done) = RemovesOn device n
  RemovesOrFails device moment n (Err why) = FailsToOpen device moment why ⊎ ((e : PoolError) × RemovesWith device n (Err e) × IsFailureFor e why)

  -- the engine refused it so
  abbrev pub RefusesRemoval : Dev → ℕ → ObjectId → Type 0
  RefusesRemoval device moment n = (why : Failure) × RemovesOrFails device moment n (Err why)
