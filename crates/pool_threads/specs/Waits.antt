-- What a handle does that waits until a transaction is durable, or until groups are synced.
use Rattle.std.specs.Prelude.{ℕ, ◌≡◌, ◌≢◌, ◌≤◌, ◌⊎◌, ◌++◌, Bool, IsTrue, List, [], ◌∷◌, None, Option, Result, Ok, Err, Some, false, if◌then◌else◌, slice_get, true}
use Rattle.base.specs.declared.error.PoolError.{PoolError}
use Rattle.base.specs.declared.error.PoolError.TheVariants.{NoLogSpace}
use Rattle.base.specs.declared.names.Group.{Group}
use Rattle.base.specs.declared.names.Receipt.{Receipt}
use Rattle.base.specs.declared.step.Reply as declared_reply
use Rattle.base.specs.declared.step.Reply.TheVariants as reply
use Rattle.base.specs.history.History.{Entry}
use Rattle.base.specs.steps.Tables.{GoesOn, AreTablesExplained}
use Rattle.base.specs.steps.Refusals.{fsync_refusal}
use Rattle.base.specs.steps.Seen.{IsKnownDurable, IsRefusedBetween}
use Rattle.base.specs.steps.Shown.{Shown, is_durable}
use Rattle.base.specs.steps.Steps.{State}
use Rattle.device_model.specs.declared.device.SectorDevice.{Ghosts}
use Rattle.pool_tables.specs.declared.duty.Duty.TheVariants as duty
use Rattle.pool_tables.specs.Receipts.{ChecksReceipt}
use Rattle.pool_threads.specs.declared.handle.Handle.{Handle}
use Rattle.pool_threads.specs.Answers.{TakesAtLast, TakesOne, state_seen}
use Rattle.pool_threads.specs.Handles.{HasLooked, moment_of, turns_of, view_seen}
use Rattle.pool_threads.specs.Serves.{GoesOnAfter, IsDutyTurn, IsRefusedDuty, IsRefusedTurn, IsServedTurn}
use Rattle.pool_threads.specs.Views.{GrowsTo, SeenPool, viewed_state}
use Rattle.word_lock.specs.declared.rule.Turn.{Turn}
use Rattle.word_lock.specs.Turns.{turn}

-- At the end of this turn the receipt was checked with this result, of a pool that its past explains.
pub record FindsReceipt (receipt : Receipt) (found : Result Bool PoolError) (t : Turn SeenPool) : Type 0 where
  pub checked : ChecksReceipt receipt found (viewed_state t.left).shown
  pub explained : ∥ AreTablesExplained (viewed_state t.left).shown t.left.past ∥₁

-- so it was in a turn that changed nothing
abbrev pub IsLookTurn : Receipt → Result Bool PoolError → Turn SeenPool → Type 0
IsLookTurn receipt found t = (t.left ≡ t.took) × FindsReceipt receipt found t

-- so it was in a turn in which the steps were made that were due for the log, the last with this reply
abbrev pub IsLogTurn : Type 0 → Receipt → Option declared_reply.Reply → Result Bool PoolError → Turn SeenPool → Type 0
IsLogTurn keeps receipt r found t = IsServedTurn keeps duty.CommitLog r t × FindsReceipt receipt found t

-- the last of these steps was refused so, and the transaction wasn't found durable
abbrev pub IsRefusedLog : Type 0 → Receipt → PoolError → Turn SeenPool → Type 0
IsRefusedLog keeps receipt e t = (found : Result Bool PoolError) × (found ≢ Ok true) × IsLogTurn keeps receipt (Some (reply.Refused e)) found t

-- A turn of a sync up to a group, with this moment: what is due for it, and nothing is refused. In the last one the
-- group is synced, or a step is refused.
abbrev pub IsSyncTurn : Type 0 → ℕ → Group → Turn SeenPool → Type 0
IsSyncTurn keeps moment group = IsDutyTurn keeps (duty.SyncUpTo group moment) None

abbrev pub EndsSyncing : Type 0 → ℕ → Group → Result (Unit {0}) PoolError → Turn SeenPool → Type 0
EndsSyncing keeps moment group (Ok done) t = IsSyncTurn keeps moment group t × (group.0 ≤ (viewed_state t.left).shown.line.synced)
EndsSyncing keeps moment group (Err e) t = IsRefusedTurn keeps (duty.SyncUpTo group moment) e t

-- the transaction of the receipt is durable then, and stays so
abbrev pub LeavesDurable : Receipt → State → State → Type 0
LeavesDurable receipt before after = IsKnownDurable receipt.ordinal.0 receipt.group.0 after

-- a refusal of a sync up to a group is that of a step that was due
abbrev pub IsSyncingRefusal : ℕ → Group → PoolError → State → State → Type 0
IsSyncingRefusal moment group = IsRefusedDuty (duty.SyncUpTo group moment)

-- how the tests of a wait refuse it: never if the transaction is durable
abbrev pub wait_refusal : Receipt → Shown → Option PoolError
wait_refusal receipt s = if is_durable s receipt.ordinal.0 receipt.group.0 then None else fsync_refusal receipt.ordinal.0 receipt.group.0 s

-- the refusal of the tests of a wait in some state, or of a step that was due for the log or for a sync
abbrev pub IsRefusedAfter : ℕ → Receipt → PoolError → State → State → Type 0
IsRefusedAfter moment receipt e looked after = IsRefusedBetween (wait_refusal receipt) e looked after
    ⊎ IsRefusedDuty duty.CommitLog e looked after ⊎ IsSyncingRefusal moment receipt.group e looked after

-- A refusal of a wait: the transaction wasn't durable in a state in which the handle looked, and the refusal came then
-- or later. The past of that state explains it.
pub record IsWaitingRefusal (moment : ℕ) (receipt : Receipt) (e : PoolError) (before after : State) : Type 0 where
  pub looked : State
  pub no_earlier : GoesOn before looked
  pub explained : AreTablesExplained looked.shown looked.past
  pub not_durable : is_durable looked.shown receipt.ordinal.0 receipt.group.0 ≡ false
  pub refused : IsRefusedAfter moment receipt e looked after

-- after a turn for the log with this last reply a sync does it instead: the log found no space, or the turn ended early
abbrev pub NeedsSync : Option declared_reply.Reply → Type 0
NeedsSync None = ⊥
NeedsSync (Some reply.Flushed) = ⊥
NeedsSync (Some (reply.Refused e)) = e ≡ NoLogSpace
NeedsSync (Some r) = Unit {0}

-- what such a turn comes to: nothing is due any more, or a refusal; or None if a sync does it instead
abbrev pub IsLogOutcome : Option declared_reply.Reply → Option (Result (Unit {0}) PoolError) → Type 0
IsLogOutcome r (Some (Ok done)) = (r ≡ None) ⊎ (r ≡ Some reply.Flushed)
IsLogOutcome r (Some (Err e)) = (r ≡ Some (reply.Refused e)) × (e ≢ NoLogSpace)
IsLogOutcome r None = NeedsSync r

-- each entry of the earlier state is durable in the later one
abbrev pub AreDurable : State → State → Type 0
AreDurable at after = (ordinal : ℕ) (e : Entry) → slice_get at.past.entries ordinal ≡ Some e → IsKnownDurable ordinal e.group after

-- a refusal of a step for the log, or for a sync
abbrev pub IsFsyncAllRefusal : ℕ → PoolError → State → State → Type 0
IsFsyncAllRefusal moment e before after = IsRefusedDuty duty.CommitLog e before after ⊎ ((group : Group) × IsSyncingRefusal moment group e before after)

-- what the last round of a wait finds that ends so
abbrev pub last_found : Result (Unit {0}) PoolError → Result Bool PoolError
last_found (Ok done) = Ok true
last_found (Err e) = Err e

-- the group, or the refusal
abbrev pub result_of : Group → Result (Unit {0}) PoolError → Result Group PoolError
result_of group (Ok done) = Ok group
result_of group (Err e) = Err e

module _ {Dev : Type 0} {G : Ghosts Dev} where
  -- the handle synced groups up to this one, and had no other turn
  abbrev pub SyncsUpTo : Group → Result (Unit {0}) PoolError → Handle Dev G → Handle Dev G → Type 0
  SyncsUpTo group result old = TakesAtLast (IsSyncTurn (IsTrue G.keeps_model) (moment_of old) group) (EndsSyncing (IsTrue G.keeps_model) (moment_of old) group result) old

  -- in one turn and no other the handle looked at a receipt with this result
  abbrev pub LooksAt : Receipt → Result Bool PoolError → Handle Dev G → Handle Dev G → Type 0
  LooksAt receipt found = TakesOne (IsLookTurn receipt found)

  -- in one turn and no other it made the steps that were due for the log, the last with this reply
  abbrev pub WritesLogInTurn : Option declared_reply.Reply → Handle Dev G → Handle Dev G → Type 0
  WritesLogInTurn r = TakesOne (IsServedTurn (IsTrue G.keeps_model) duty.CommitLog r)

  -- so it did, and found the receipt so in the same turn
  abbrev pub WritesAndFinds : Receipt → Option declared_reply.Reply → Result Bool PoolError → Handle Dev G → Handle Dev G → Type 0
  WritesAndFinds receipt r found = TakesOne (IsLogTurn (IsTrue G.keeps_model) receipt r found)

  -- a step for the log was refused so, and the transaction wasn't found durable then
  abbrev pub IsRefusedToWrite : Receipt → PoolError → Handle Dev G → Handle Dev G → Type 0
  IsRefusedToWrite receipt e = TakesOne (IsRefusedLog (IsTrue G.keeps_model) receipt e)

  -- the log found no space, and then the handle synced groups up to the receipt's, with this result
  pub record SyncsInstead (receipt : Receipt) (result : Result (Unit {0}) PoolError) (old new : Handle Dev G) : Type 0 where
    pub full : Handle Dev G
    pub refused : IsRefusedToWrite receipt NoLogSpace old full
    pub syncs : SyncsUpTo receipt.group result full new

  -- What a handle does that leads, and whether the transaction is durable then. In one turn it writes and flushes the
  -- log, and looks; unless that finds the transaction durable, a refusal of a step is the result. Or it syncs groups
  -- instead.
  abbrev pub Leads : Receipt → Result Bool PoolError → Handle Dev G → Handle Dev G → Type 0
  Leads receipt (Ok true) old new = ((r : Option declared_reply.Reply) × WritesAndFinds receipt r (Ok true) old new) ⊎ SyncsInstead receipt (Ok tt) old new
  Leads receipt (Ok false) old new = (r : Option declared_reply.Reply) × GoesOnAfter None r × WritesAndFinds receipt r (Ok false) old new
  Leads receipt (Err e) old new =
      ((r : Option declared_reply.Reply) × GoesOnAfter None r × WritesAndFinds receipt r (Err e) old new)
      ⊎ (((e ≢ NoLogSpace) × IsRefusedToWrite receipt e old new) ⊎ SyncsInstead receipt (Err e) old new)

  -- A round of a wait, and whether the transaction is durable then: the handle leads, or it looks, after another led.
  abbrev pub WaitsOnce : Receipt → Result Bool PoolError → Handle Dev G → Handle Dev G → Type 0
  WaitsOnce receipt found old new = LooksAt receipt found old new ⊎ Leads receipt found old new

  -- such rounds, each of which left the transaction not durable
  abbrev pub Waits : Receipt → List (Handle Dev G) → Handle Dev G → Handle Dev G → Type 0
  Waits receipt [] old now = now ≡ old
  Waits receipt (h ∷ hs) old now = WaitsOnce receipt (Ok false) old h × Waits receipt hs h now

  -- A wait for a flush, with this result: rounds, and a last one that is refused, or finds the transaction durable.
  pub record WaitsForFlush (receipt : Receipt) (result : Result (Unit {0}) PoolError) (old new : Handle Dev G) : Type 0 where
    pub rounds : List (Handle Dev G)
    pub last : Handle Dev G
    pub waits : Waits receipt rounds old last
    pub ends : WaitsOnce receipt (last_found result) last new

  -- how a wait ends after a first look: it waits for a flush only if the transaction isn't durable
  abbrev pub EndsAfter : Receipt → Result Bool PoolError → Result (Unit {0}) PoolError → Handle Dev G → Handle Dev G → Type 0
  EndsAfter receipt (Ok true) result looked new = (result ≡ Ok tt) × (new ≡ looked)
  EndsAfter receipt (Ok false) result looked new = WaitsForFlush receipt result looked new
  EndsAfter receipt (Err e) result looked new = (result ≡ Err e) × (new ≡ looked)

  -- A wait for a receipt, with this result: a look, and what follows from it.
  pub record WaitsUntil (receipt : Receipt) (result : Result (Unit {0}) PoolError) (old new : Handle Dev G) : Type 0 where
    pub found : Result Bool PoolError
    pub looked : Handle Dev G
    pub looks : LooksAt receipt found old looked
    pub ends : EndsAfter receipt found result looked new

  -- The handle looked which group was open, and then synced groups up to that one.
  pub record SyncsPool (answer : Result Group PoolError) (old new : Handle Dev G) : Type 0 where
    pub group : Group
    pub looked : Handle Dev G
    pub looks : HasLooked old looked
    pub open_then : group.0 ≡ (state_seen looked).shown.line.open_group
    pub result : Result (Unit {0}) PoolError
    pub syncs : SyncsUpTo group result looked new
    pub answered : answer ≡ result_of group result

  -- the turn's outcome, or else the handle synced the pool with this result
  abbrev pub EndsFsync : Option (Result (Unit {0}) PoolError) → Result (Unit {0}) PoolError → Handle Dev G → Handle Dev G → Type 0
  EndsFsync (Some ended) result wrote new = (result ≡ ended) × (new ≡ wrote)
  EndsFsync None (Ok done) wrote new = (group : Group) × SyncsPool (Ok group) wrote new
  EndsFsync None (Err e) wrote new = SyncsPool (Err e) wrote new

  -- The handle wrote the log in one turn. Unless that left nothing to write or to flush, or was refused, it synced the
  -- pool.
  pub record FsyncsAll (result : Result (Unit {0}) PoolError) (old new : Handle Dev G) : Type 0 where
    pub reply : Option declared_reply.Reply
    pub wrote : Handle Dev G
    pub writes : WritesLogInTurn reply old wrote
    pub outcome : Option (Result (Unit {0}) PoolError)
    pub is_outcome : IsLogOutcome reply outcome
    pub ends : EndsFsync outcome result wrote new

  -- The handle had a first turn, and each commit that was made before that turn is durable now, whoever made it.
  pub record LeavesAllDurable (old new : Handle Dev G) : Type 0 where
    pub took : SeenPool
    pub left : SeenPool
    pub later : List (Turn SeenPool)
    pub turns : turns_of new ≡ (turns_of old ++ turn took left ∷ []) ++ later
    pub onward : GrowsTo (IsTrue G.keeps_model) (view_seen old) took
    pub durable : ∥ AreDurable (viewed_state took) (state_seen new) ∥₁
