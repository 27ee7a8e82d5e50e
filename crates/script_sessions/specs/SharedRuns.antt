-- What a pool under a lock keeps of its run over commands, whatever moment the power goes.
use Rattle.std.specs.Prelude.{ℕ, ◌≡◌, List}
use Rattle.base.specs.declared.step.Step as declared_step
use Rattle.base.specs.declared.step.Reply as declared_reply
use Rattle.base.specs.history.Contents.{Contents}
use Rattle.base.specs.history.Past.{Grows, Past, new_past}
use Rattle.base.specs.steps.Explains.{IsLeftBy}
use Rattle.base.specs.steps.Runs.{Run}
use Rattle.pool_threads.specs.Views.{IsFollowed, IsSafeBetween, SeenPool, since, viewed_state}
use Rattle.script_sessions.specs.SharedPools.{view_in}
use Rattle.script_sessions.specs.declared.shared_pool.SharedPool.{SharedPool}

-- a run with this past has come to what the session has seen of its pool, and follows the crash rule
pub record IsRunOf (past : Past) (shared : SharedPool) : Type 0 where
  pub seen_is : since past.created (view_in shared).past ≡ past
  pub followed : IsFollowed (view_in shared).rule past.created

-- A run begins in the pool as it is shared, with contents that the run before it left: the replay of a cut of its
-- entries with every acknowledged one. Nothing has happened in it.
pub record BeginsShared (earlier : Past) (dirty_max : ℕ) (shared : SharedPool) : Type 0 where
  pub base : Contents
  pub left : IsLeftBy earlier base
  pub shows : (viewed_state (view_in shared)).shown.contents ≡ base
  pub run : IsRunOf (new_past base earlier.created dirty_max) shared

-- such a step between two views is safe, in a run whose create began at this moment
abbrev pub StepsSafely : ℕ → declared_step.Step → declared_reply.Reply → SeenPool → SeenPool → Type 0
StepsSafely created s r v w = IsSafeBetween s r created v w

-- Steps with their replies lead from what the session had seen to what it has seen then, and the run from this past to
-- a later one. Each is a step of the definitions, and a crash at any moment of it leaves a cut with every acknowledged
-- entry.
pub record GoesSafely (past : Past) (old new : SharedPool) : Type 0 where
  pub steps : List declared_step.Step
  pub replies : List declared_reply.Reply
  pub made : Run (StepsSafely past.created) steps replies (view_in old) (view_in new)
  pub later : Past
  pub goes_on : Grows past later
  pub run : IsRunOf later new
