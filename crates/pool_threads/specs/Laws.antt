-- What the crash rule says of the steps that handles make, of a pool whose lock is free, and of one that was finished.
use Rattle.std.specs.Prelude.{ℕ, Bool, IsTrue, Result}
use Rattle.base.specs.declared.error.PoolError.{PoolError}
use Rattle.base.specs.declared.names.Group.{Group}
use Rattle.base.specs.declared.step.Step as declared_step
use Rattle.base.specs.declared.step.Reply as declared_reply
use Rattle.base.specs.disk.Disk.{Disk}
use Rattle.device_model.specs.declared.device.SectorDevice.{Ghosts}
use Rattle.pool_core.specs.KeptSafe.{IsStoppedBetween}
use Rattle.pool_core.specs.declared.state.PoolState.{PoolState}
use Rattle.pool_threads.specs.Finishes.{SyncsAtEnd}
use Rattle.pool_threads.specs.Handles.{opening_view}
use Rattle.pool_threads.specs.Views as views
use Rattle.pool_threads.specs.Views.{IsFollowed, IsPoolStep, SeenPool, WereSafeBetween, past_between, since, viewed_state}
use Rattle.pool_threads.specs.declared.shared.Shared.{Shared}
use Rattle.base.specs.kept.LeftDisks.{IsLeft}
use Rattle.base.specs.steps.Explains.{AreSafe, Explains}

-- at each moment of such a step, on the disk of its views, every fair image mounts a cut with all that was acknowledged
-- before the step
abbrev pub SteppedPoolsAreSafe : Type 0
SteppedPoolsAreSafe = (keeps : Bool) (s : declared_step.Step) (r : declared_reply.Reply) (v w : SeenPool) (created : ℕ) → IsPoolStep (IsTrue keeps) s r v w → IsTrue keeps → IsFollowed v.rule created
    → ∥ WereSafeBetween created v w ∥₁

-- After it, as the pool is free again, one history explains the pool: its tables and contents, its synced tree and free
-- blocks, and that every fair image that a crash now leaves mounts a cut with every acknowledged entry.
abbrev pub SteppedPoolsAreExplained : Type 0
SteppedPoolsAreExplained = (keeps : Bool) (s : declared_step.Step) (r : declared_reply.Reply) (v w : SeenPool) (created : ℕ) → IsPoolStep (IsTrue keeps) s r v w → IsTrue keeps → IsFollowed v.rule created
    → ∥ Explains (Unit {0}) w.disk (viewed_state w).shown (since created w.past) ∥₁

-- and if a crash stops the step, a run with its past left the disk, from which an import goes on
abbrev pub StoppedPoolsAreLeft : Type 0
StoppedPoolsAreLeft = (keeps : Bool) (s : declared_step.Step) (r : declared_reply.Reply) (v w : SeenPool) (created : ℕ) (ended : Disk) → IsPoolStep (IsTrue keeps) s r v w → IsTrue keeps → IsFollowed v.rule created
    → IsStoppedBetween v.disk ended w.disk → ∥ IsLeft (past_between created v w) ended ∥₁

module _ {Dev : Type 0} (G : Ghosts Dev) where
  -- So it is whenever the pool is free, whatever was done before: a view explains it, and then one history does.
  abbrev pub FreePoolsAreExplained : Type 0
  FreePoolsAreExplained = (p : PoolState Dev G) (v : SeenPool) (created : ℕ) → views.Explains p v → IsTrue G.keeps_model → IsFollowed v.rule created
      → ∥ Explains (Unit {0}) v.disk (viewed_state v).shown (since created v.past) ∥₁

  -- Of the device that a finished pool gives back, every fair image that a crash leaves mounts a cut with every
  -- acknowledged entry, and a run with the past of the view after the sync left its disk.
  abbrev pub FinishedPoolsAreLeft : Type 0
  FinishedPoolsAreLeft = (p : Shared Dev G) (moment : ℕ) (answer : Result Group PoolError) (device : Dev) (created : ℕ) (finished : SyncsAtEnd p moment answer device) → IsTrue G.keeps_model
      → IsFollowed (opening_view p).rule created → ∥ (AreSafe (G.disk device) (since created finished.after.past) × IsLeft (since created finished.after.past) (G.disk device)) ∥₁
