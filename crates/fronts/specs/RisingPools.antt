-- Pools whose groups rise with the ordinals: what a crash leaves of them, and which calls of a handle keep it so.
use Rattle.std.specs.Prelude.{ℕ, ◌≡◌, Bool, IsTrue, List, Option, Result, false, true}
use Rattle.base.specs.declared.error.PoolError.{PoolError}
use Rattle.base.specs.declared.names.Group.{Group}
use Rattle.base.specs.declared.names.ObjectId.{ObjectId}
use Rattle.base.specs.declared.names.Owner.{Owner}
use Rattle.base.specs.declared.names.Receipt.{Receipt}
use Rattle.base.specs.declared.operation.Op.{Op}
use Rattle.base.specs.declared.operation.Shape.{Shape}
use Rattle.base.specs.declared.range.ObjectRange.{ObjectRange}
use Rattle.base.specs.declared.range.Range.{Range}
use Rattle.base.specs.declared.step.Reply as declared_reply
use Rattle.base.specs.declared.step.Reply.TheVariants as reply
use Rattle.base.specs.declared.step.Step as declared_step
use Rattle.base.specs.declared.step.Step.TheVariants as step
use Rattle.base.specs.disk.Disk.{Disk}
use Rattle.base.specs.disk.Fairness.{LeavesFairNow, LeavesFairSince}
use Rattle.base.specs.history.History.{AreRising}
use Rattle.device_model.specs.declared.device.SectorDevice.{Ghosts}
use Rattle.pool_tables.specs.declared.duty.Duty.{Duty}
use Rattle.pool_threads.specs.declared.handle.Handle.{Handle}
use Rattle.pool_threads.specs.declared.shared.Shared.{Shared}
use Rattle.pool_threads.specs.Answers.{Makes, MakesAtLast}
use Rattle.pool_threads.specs.Fetches.{Fetches}
use Rattle.pool_threads.specs.Handles.{HasLooked, OpensBehind, kin_of, opening_view, view_seen}
use Rattle.pool_threads.specs.Loops.{Works, WorksUntil}
use Rattle.pool_threads.specs.LongWrites.{WritesInPieces}
use Rattle.pool_threads.specs.Transacts.{MakesTransaction, TransactsDurably, TransactsLockedOrLacks, TransactsOrLacks}
use Rattle.pool_threads.specs.Views.{GrowsTo, IsFollowed, IsPoolStep, SeenPool, past_between, since, viewed_state}
use Rattle.pool_threads.specs.Waits.{FsyncsAll, SyncsPool, WaitsUntil}
use Rattle.fronts.specs.Fronts.{GoesIntoOpen, MountsToFront}

-- groups rise in what is seen of a pool
abbrev pub Rises : SeenPool → Type 0
Rises v = ∥ AreRising v.past.entries ∥₁

-- Every fair image that a crash now leaves of the disk that is seen mounts a front of the entries, with every
-- acknowledged one. So it is of a pool whose create began at this moment.
abbrev pub LeavesFronts : (created : ℕ) → SeenPool → Type 0
LeavesFronts created v = LeavesFairNow v.disk created (λ image. MountsToFront image (since created v.past))

-- so it is at each moment from the one view's disk to the other's, of the later entries, with all that was acknowledged
-- before
abbrev pub LeavesFrontsBetween : (created : ℕ) → SeenPool → SeenPool → Type 0
LeavesFrontsBetween created v w = LeavesFairSince v.disk w.disk created (λ image. MountsToFront image (past_between created v w))

-- a step of a pool that commits nothing into a closed group keeps groups rising
abbrev pub PoolStepsKeepRising : Type 0
PoolStepsKeepRising = (keeps : Bool) (s : declared_step.Step) (r : declared_reply.Reply) (v w : SeenPool) → IsPoolStep (IsTrue keeps) s r v w
    → GoesIntoOpen s r (viewed_state v) → Rises v → Rises w

-- At each moment of a step after which groups rise, in a pool that follows the crash rule, a crash leaves a front.
abbrev pub SteppedPoolsLeaveFronts : Type 0
SteppedPoolsLeaveFronts = (keeps : Bool) (s : declared_step.Step) (r : declared_reply.Reply) (v w : SeenPool) (created : ℕ) → IsPoolStep (IsTrue keeps) s r v w → IsTrue keeps → IsFollowed v.rule created
    → Rises w → ∥ LeavesFrontsBetween created v w ∥₁

-- the steps of a transaction in one turn keep groups rising, whatever its result
abbrev pub TransactionsKeepRising : Type 0
TransactionsKeepRising = (keeps : Bool) (owner : Owner) (ranges : List ObjectRange) (plan : List Shape) (ops : List Op) (result : Result Receipt PoolError) (v w : SeenPool)
    → MakesTransaction (IsTrue keeps) owner ranges plan ops result v w → Rises v → Rises w

-- whether a step is a commit that took place
abbrev pub is_commit : declared_step.Step → declared_reply.Reply → Bool
is_commit (step.Commit tx ops) (reply.Committed receipt) = true
is_commit _ _ = false

-- Groups rise in what is seen of a pool. If the crash rule is followed over a device that keeps the disk model, a crash
-- now leaves a front.
pub record IsInOrder (keeps : Bool) (v : SeenPool) : Type 0 where
  pub rising : Rises v
  pub fronts : IsTrue keeps → (created : ℕ) → IsFollowed v.rule created → ∥ LeavesFronts created v ∥₁

-- So it is of a later view, too, and a crash at any moment from the one to the other has left a front.
pub record StaysInOrder (keeps : Bool) (v w : SeenPool) : Type 0 where
  pub onward : GrowsTo (IsTrue keeps) v w
  pub after : IsInOrder keeps w
  pub between : IsTrue keeps → (created : ℕ) → IsFollowed v.rule created → ∥ LeavesFrontsBetween created v w ∥₁

module _ {Dev : Type 0} {G : Ghosts Dev} where
  -- The handle is the only one that its pool ever had, so nothing else has moved the pool. Groups rise in what it has
  -- seen. If the crash rule is followed over a device that keeps the disk model, a crash now leaves a front.
  pub record RisesAlone (h : Handle Dev G) : Type 0 where
    pub only : kin_of h ≡ 0
    pub rising : Rises (view_seen h)
    pub fronts : IsTrue G.keeps_model → (created : ℕ) → IsFollowed (view_seen h).rule created → ∥ LeavesFronts created (view_seen h) ∥₁

  -- It is so later on, too, and a crash at any moment from the one to the other has left a front.
  pub record GoesOnRising (old new : Handle Dev G) : Type 0 where
    pub onward : GrowsTo (IsTrue G.keeps_model) (view_seen old) (view_seen new)
    pub after : RisesAlone new
    pub between : IsTrue G.keeps_model → (created : ℕ) → IsFollowed (view_seen old).rule created → ∥ LeavesFrontsBetween created (view_seen old) (view_seen new) ∥₁

  -- What a call did that makes whole transactions, each in one turn.
  pub data MakesTransactions (old new : Handle Dev G) : Type 0 where
    by_transact : (owner : Owner) (ops : List Op) (result : Result Receipt PoolError) → TransactsOrLacks owner ops result old new → MakesTransactions old new
    by_transact_locked : (owner : Owner) (ops : List Op) (result : Result Receipt PoolError) → TransactsLockedOrLacks owner ops result old new → MakesTransactions old new
    by_transact_durably : (owner : Owner) (ops : List Op) (result : Result Receipt (PoolError × Option Receipt)) → TransactsDurably owner ops result old new → MakesTransactions old new
    by_write_long : (owner : Owner) (object : ObjectId) (offset : ℕ) (bytes : List ℕ) (result : Result Receipt (PoolError × ℕ)) → WritesInPieces owner object offset bytes result old new → MakesTransactions old new

  -- What a call did that commits nothing: a step, at once or at last; a look, as that of a list; a fetch; a sync; a wait
  -- for a receipt, or for all of them; a loop, up to its end or to its refusal.
  pub data CommitsNothing (old new : Handle Dev G) : Type 0 where
    by_no_step : new ≡ old → CommitsNothing old new
    by_step : (s : declared_step.Step) (r : declared_reply.Reply) → is_commit s r ≡ false → Makes s r old new → CommitsNothing old new
    by_step_at_last : (s : declared_step.Step) (e : PoolError) (r : declared_reply.Reply) → is_commit s r ≡ false → MakesAtLast s e r old new → CommitsNothing old new
    by_look : HasLooked old new → CommitsNothing old new
    by_fetch : (owner : Owner) (object : ObjectId) (range : Range) (result : Result (List ℕ) PoolError) → Fetches owner object range result old new → CommitsNothing old new
    by_sync_pool : (answer : Result Group PoolError) → SyncsPool answer old new → CommitsNothing old new
    by_fsync : (receipt : Receipt) (result : Result (Unit {0}) PoolError) → WaitsUntil receipt result old new → CommitsNothing old new
    by_fsync_all : (result : Result (Unit {0}) PoolError) → FsyncsAll result old new → CommitsNothing old new
    by_loop : (d : Duty) → Works d old new → CommitsNothing old new
    by_loop_until : (d : Duty) (e : PoolError) → WorksUntil d e old new → CommitsNothing old new

module _ {Dev : Type 0} (G : Ghosts Dev) where
  -- groups rise for the only handle of a pool, before its first turn
  abbrev pub FirstHandlesRise : Type 0
  FirstHandlesRise = (p : Shared Dev G) (old : Disk) (dirty_max : ℕ) (h : Handle Dev G) → OpensBehind (IsTrue G.keeps_model) old dirty_max (opening_view p)
      → kin_of h ≡ 0 → view_seen h ≡ opening_view p → RisesAlone h

  -- a call that makes whole transactions keeps it so, and a crash at any moment of it leaves a front
  abbrev pub TransactsGoOnRising : Type 0
  TransactsGoOnRising = (old new : Handle Dev G) → MakesTransactions old new → RisesAlone old → GoesOnRising old new

  -- and so does each call that commits nothing
  abbrev pub OtherCallsGoOnRising : Type 0
  OtherCallsGoOnRising = (old new : Handle Dev G) → CommitsNothing old new → RisesAlone old → GoesOnRising old new

  -- and so do calls one after another
  abbrev pub CallsGoOnRising : Type 0
  CallsGoOnRising = (old now new : Handle Dev G) → GoesOnRising old now → GoesOnRising now new → GoesOnRising old new
