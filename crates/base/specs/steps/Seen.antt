-- What the reply to a thread means, by the state that it had seen before its call and the one that it has seen after
-- it.
use Rattle.std.specs.Prelude.{ℕ, ◌≡◌, ◌≤◌, ◌<◌, ◌⊎◌, true, false, List, take, length, slice_get, Some, Ok, Option}
use Rattle.std.specs.FinMap as finite
use Rattle.base.specs.declared.error.PoolError.{PoolError}
use Rattle.base.specs.declared.error.PoolError.TheVariants as error
use Rattle.base.specs.declared.operation.Op.{Op}
use Rattle.base.specs.declared.operation.Shape.{Shape}
use Rattle.base.specs.declared.range.Mode.{Mode}
use Rattle.base.specs.declared.step.Step as declared_step
use Rattle.base.specs.declared.status.Status.{Status}
use Rattle.base.specs.declared.step.Reply as declared_reply
use Rattle.base.specs.history.Contents.{Contents, length_of}
use Rattle.base.specs.history.Plans.{NumberRange, charge_of}
use Rattle.base.specs.history.History.{Entry, replay}
use Rattle.base.specs.steps.Locks.{Grant, is_in}
use Rattle.base.specs.formats.Digest.{digest_of}
use Rattle.base.specs.steps.Shown.{Shown, status_of}
use Rattle.base.specs.steps.Steps.{State, bytes_in}
use Rattle.base.specs.steps.Runs.{Step}
use Rattle.base.specs.steps.Tables.{AreTablesExplained, GoesOn}

-- a step with this reply was made between the two, from a state that its past explains, over some device
pub record IsMadeBetween (keeps : Type 0) (step : declared_step.Step) (reply : declared_reply.Reply) (before after : State) : Type 0 where
  pub old : State
  pub new : State
  pub no_earlier : GoesOn before old
  pub no_later : GoesOn new after
  pub explained : AreTablesExplained old.shown old.past
  pub now : List ℕ
  pub made : Step keeps now step reply old new

-- some prefix of the later history, no shorter than the earlier one, replays to these contents
pub record IsContentsBetween (before after : State) (c : Contents) : Type 0 where
  pub count : ℕ
  pub no_shorter : length before.past.entries ≤ count
  pub no_longer : count ≤ length after.past.entries
  pub replayed : replay (take count after.past.entries) after.past.base ≡ Ok c

-- commit answered this receipt: the entry stands at its ordinal, and was not yet seen
pub record IsCommitted (tx : ℕ) (ops : List Op) (ordinal group : ℕ) (before after : State) : Type 0 where
  pub entry : slice_get after.past.entries ordinal ≡ Some (record { group = group; tx = tx; ops = ops })
  pub fresh : length before.past.entries ≤ ordinal

-- begin answered this name and group: it is a new admission with this owner and plan
pub record IsAdmitted (owner : ℕ) (plan : List Shape) (tx group : ℕ) (before after : State) : Type 0 where
  pub admission : slice_get after.past.admissions tx ≡ Some (record { tx = tx; group = group; owner = owner; plan = plan })
  pub fresh : length before.past.admissions ≤ tx

-- lock answered this name: it is a new grant with this owner, range and mode
pub record IsGranted (owner : ℕ) (range : NumberRange) (mode : Mode) (id : ℕ) (before after : State) : Type 0 where
  pub grant : slice_get after.past.grants id ≡ Some (record { id = id; owner = owner; range = range; mode = mode })
  pub fresh : length before.past.grants ≤ id

-- unlock answered Ok: the lock was this owner's, and was released during the call
pub record IsLetGo (owner id : ℕ) (before after : State) : Type 0 where
  pub grant : Grant
  pub granted : slice_get after.past.grants id ≡ Some grant
  pub own : grant.owner ≡ owner
  pub held_before : is_in id before.past.let_go ≡ false
  pub let_go_after : is_in id after.past.let_go ≡ true

-- abort answered Ok: the transaction was aborted during the call
pub record IsAborted (tx : ℕ) (before after : State) : Type 0 where
  pub open_before : is_in tx before.past.aborted ≡ false
  pub aborted_after : is_in tx after.past.aborted ≡ true

-- read answered these bytes, length this number, name and digest these
abbrev pub IsReadBetween : NumberRange → List ℕ → State → State → Type 0
IsReadBetween range bytes before after = (c : Contents) × IsContentsBetween before after c
    × ((all : List ℕ) × (finite.get c.objects range.number ≡ Some all) × (bytes ≡ bytes_in range all))

abbrev pub IsLengthBetween : ℕ → ℕ → State → State → Type 0
IsLengthBetween n count before after = (c : Contents) × IsContentsBetween before after c × (length_of c n ≡ Some count)

abbrev pub IsNameBetween : List ℕ → State → State → Type 0
IsNameBetween name before after = (c : Contents) × IsContentsBetween before after c × (c.name ≡ name)

abbrev pub IsDigestBetween : List ℕ → State → State → Type 0
IsDigestBetween digest before after = (c : Contents) × IsContentsBetween before after c × (digest_of c ≡ digest)

-- status answered this: the groups and sums of some state between the two that its past explains
pub record IsStatusBetween (status : Status) (before after : State) : Type 0 where
  pub state : State
  pub no_earlier : GoesOn before state
  pub no_later : GoesOn state after
  pub explained : AreTablesExplained state.shown state.past
  pub told : status ≡ status_of state.shown

-- durable answered yes, or fsync Ok: the receipt's group is synced, or the entry at its ordinal is there, has its group
-- and is acknowledged
abbrev pub IsKnownDurable : ℕ → ℕ → State → Type 0
IsKnownDurable ordinal group s = (group ≤ s.shown.line.synced)
    ⊎ ((e : Entry) × (slice_get s.past.entries ordinal ≡ Some e) × (e.group ≡ group) × (is_in ordinal s.past.acknowledged ≡ true))

-- a sync of the whole pool answered Ok: the group that was open in the state seen before the call is synced in the one
-- seen after it
abbrev pub IsPoolSynced : State → State → Type 0
IsPoolSynced before after = before.shown.line.open_group ≤ after.shown.line.synced

-- a refusal is that of the call in some state between the two that its past explains, and `Suspended` is one of a
-- suspended pool alone
pub record IsRefusedBetween (refuses : Shown → Option PoolError) (given : PoolError) (before after : State) : Type 0 where
  pub state : State
  pub no_earlier : GoesOn before state
  pub no_later : GoesOn state after
  pub explained : AreTablesExplained state.shown state.past
  pub refused : refuses state.shown ≡ Some given
  pub suspended : given ≡ error.Suspended → state.shown.suspended ≡ true

-- a begin that tries again is refused as throttled only if its plan's charge alone is above the limit
abbrev pub IsThrottledForGood : List Shape → State → Type 0
IsThrottledForGood plan s = s.shown.dirty_max < charge_of plan

-- what a seat sees by a join: a state that steps lead to from those of both seats
pub record IsJoined (one other joined : State) : Type 0 where
  pub from_one : GoesOn one joined
  pub from_other : GoesOn other joined
