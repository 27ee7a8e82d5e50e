-- What a reply says to a thread, by the state that it had seen before its call and the one that it has seen after it.
use Rattle.std.specs.Prelude.{ℕ, ◌≡◌, ◌≤◌, ◌<◌, Bool, true, false, List, Option}
use Rattle.base.specs.declared.error.PoolError.{PoolError}
use Rattle.base.specs.declared.error.PoolError.TheVariants as error
use Rattle.base.specs.declared.names.Group.{Group}
use Rattle.base.specs.declared.names.LockId.{LockId}
use Rattle.base.specs.declared.names.ObjectId.{ObjectId}
use Rattle.base.specs.declared.names.Owner.{Owner}
use Rattle.base.specs.declared.names.Receipt.{Receipt}
use Rattle.base.specs.declared.names.TxId.{TxId}
use Rattle.base.specs.declared.operation.Op.{Op}
use Rattle.base.specs.declared.operation.Shape.{Shape}
use Rattle.base.specs.declared.range.Mode.{Mode}
use Rattle.base.specs.declared.range.Range.{Range}
use Rattle.base.specs.declared.step.Step as declared_step
use Rattle.base.specs.declared.step.Step.TheVariants as step
use Rattle.base.specs.declared.step.Reply.TheVariants as reply
use Rattle.base.specs.steps.Refusals.{object_range}
use Rattle.base.specs.steps.Shown.{Shown, is_durable}
use Rattle.base.specs.steps.Steps.{State}
use Rattle.base.specs.steps.Runs.{refusal_of_step}
use Rattle.base.specs.steps.Tables.{AreTablesExplained, GoesOn}
use Rattle.base.specs.steps.Seen.{IsMadeBetween, IsContentsBetween, IsCommitted, IsAdmitted, IsGranted, IsLetGo, IsReadBetween, IsKnownDurable, IsPoolSynced, IsRefusedBetween}

-- the contents of a state between the two are replayed by a prefix between their histories
abbrev pub ContentsAreBetween : Type 0
ContentsAreBetween = (before s after : State) → AreTablesExplained s.shown s.past → GoesOn before s → GoesOn s after → IsContentsBetween before after s.shown.contents

-- a commit that was answered a receipt made that entry, and so of the admission of a begin, the grant of a lock and the
-- end of a lock
abbrev pub CommitsAreSeen : Type 0
CommitsAreSeen = (tx : TxId) (ops : List Op) (receipt : Receipt) (before after : State) → IsMadeBetween ⊥ (step.Commit tx ops) (reply.Committed receipt) before after
    → IsCommitted tx.0 ops receipt.ordinal.0 receipt.group.0 before after

abbrev pub BeginsAreSeen : Type 0
BeginsAreSeen = (owner : Owner) (plan : List Shape) (tx : TxId) (group : Group) (before after : State) → IsMadeBetween ⊥ (step.Begin owner plan) (reply.Began tx group) before after
    → IsAdmitted owner.0 plan tx.0 group.0 before after

abbrev pub LocksAreSeen : Type 0
LocksAreSeen = (owner : Owner) (n : ObjectId) (range : Range) (mode : Mode) (id : LockId) (before after : State) → IsMadeBetween ⊥ (step.Lock owner n range mode) (reply.Locked id) before after
    → IsGranted owner.0 (object_range n.0 range.low range.high) mode id.0 before after

abbrev pub UnlocksAreSeen : Type 0
UnlocksAreSeen = (owner : Owner) (id : LockId) (before after : State) → IsMadeBetween ⊥ (step.Unlock owner id) reply.Done before after → IsLetGo owner.0 id.0 before after

-- over a device that keeps the disk model, the bytes of a read are those of contents between
abbrev pub ReadsAreSeen : Type 0
ReadsAreSeen = (owner : Owner) (n : ObjectId) (range : Range) (bytes : List ℕ) (before after : State) → IsMadeBetween (Unit {0}) (step.Read owner n range) (reply.Bytes bytes) before after
    → IsReadBetween (object_range n.0 range.low range.high) bytes before after

-- what is shown as durable is known to be so, and stays so
abbrev pub DurableIsKnown : Type 0
DurableIsKnown = (ordinal group : ℕ) (s after : State) → AreTablesExplained s.shown s.past → is_durable s.shown ordinal group ≡ true → GoesOn s after → IsKnownDurable ordinal group after

-- the synced and the open group only go up, so a group that is synced in between is synced after
abbrev pub GroupsGoUp : Type 0
GroupsGoUp = (before after : State) → AreTablesExplained before.shown before.past → GoesOn before after
    → (before.shown.line.synced ≤ after.shown.line.synced) × (before.shown.line.open_group ≤ after.shown.line.open_group)

-- a sync of the whole pool syncs a group
abbrev pub PoolSyncsSync : Type 0
PoolSyncsSync = (before after : State) → AreTablesExplained before.shown before.past → IsPoolSynced before after → before.shown.line.synced < after.shown.line.synced

-- whether a pool that is refused this is suspended from then on
abbrev pub is_suspending : PoolError → Bool
is_suspending error.Write = true
is_suspending error.Flush = true
is_suspending error.Suspended = true
is_suspending _ = false

-- a pool of which a step was refused a write, a flush, or as suspended, is suspended from then on
abbrev pub RefusalsSuspend : Type 0
RefusalsSuspend = (s : declared_step.Step) (e : PoolError) (before after : State) → IsMadeBetween ⊥ s (reply.Refused e) before after → is_suspending e ≡ true → after.shown.suspended ≡ true

-- and so is one of which a call was refused as suspended
abbrev pub SuspensionsAreSeen : Type 0
SuspensionsAreSeen = (refuses : Shown → Option PoolError) (before after : State) → IsRefusedBetween refuses error.Suspended before after → after.shown.suspended ≡ true

-- whether a step may be refused this by what its tests don't see: memory and the device
abbrev pub is_untested : PoolError → Bool
is_untested error.NoMemory = true
is_untested error.Read = true
is_untested error.Write = true
is_untested error.Flush = true
is_untested (error.Damaged kind address) = true
is_untested _ = false

-- every other refusal of a step is that of its tests in some state between
abbrev pub RefusalsAreSeen : Type 0
RefusalsAreSeen = (s : declared_step.Step) (e : PoolError) (before after : State) → IsMadeBetween ⊥ s (reply.Refused e) before after → is_untested e ≡ false
    → IsRefusedBetween (refusal_of_step s) e before after
