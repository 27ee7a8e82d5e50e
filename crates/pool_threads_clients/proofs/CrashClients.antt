-- One history explains a pool that was created, opened and closed, and a finished one leaves its history.
use Rattle.std.proofs.Common.{◌≡◌, ◌∙◌, ℕ, refl, sym, subst}
use Rattle.std.specs.Prelude.{IsTrue, IfSome, Option, Some, None, Result, Err}
use Rattle.std.proofs.Math.Logic.{∥∥₁_map}
use Rattle.base.specs.declared.error.PoolError.{PoolError}
use Rattle.base.specs.declared.names.Group.{Group}
use Rattle.base.specs.disk.Disk.{Disk}
use Rattle.base.specs.history.Past.{Past}
use Rattle.base.specs.kept.LeftDisks.{IsLeft}
use Rattle.base.specs.steps.Explains as every
use Rattle.base.specs.steps.Explains.{AreSafe}
use Rattle.device_model.specs.declared.device.SectorDevice.{Ghosts}
use Rattle.pool_core.specs.declared.state.PoolState.{PoolState}
use Rattle.pool_threads.proofs.FreePools.{finished_left, free_explained}
use Rattle.pool_threads.specs.declared.shared.Shared.{Shared}
use Rattle.pool_threads.specs.Finishes.{Finishes, SyncsAtEnd}
use Rattle.pool_threads.specs.Handles.{IsLaterState, opening_view}
use Rattle.pool_threads.specs.Views.{CrashRule, Explains, IsFollowed, SeenPool, since, viewed_state}
use Rattle.pool_threads.specs.Views.CrashRule.{Behind}

-- a run with this past left the disk that the pool was opened on, so the pool follows the crash rule after that
pub followed_behind : (past : Past) (disk : Disk) (rule : CrashRule) → rule ≡ Behind disk → IsLeft past disk → IsFollowed rule past.created
followed_behind past disk rule is left = subst (λ (r : CrashRule). IsFollowed r past.created) (sym is) ∣ (past, refl, left) ∣₁

module _ {Dev : Type 0} {G : Ghosts Dev} (keeps : IsTrue G.keeps_model) (p : Shared Dev G) where
  -- one history explains the state in which it ended
  pub ended_explained : (disk : Disk) (past : Past) → (opening_view p).rule ≡ Behind disk → IsLeft past disk → (r : Option (PoolState Dev G)) → IfSome r (λ s. IsLaterState p s)
      → IfSome r (λ s. (v : SeenPool) × Explains s v × ∥ every.Explains (Unit {0}) v.disk (viewed_state v).shown (since past.created v.past) ∥₁)
  ended_explained disk past is left (Some s) (v, ends) = (
    v,
    ends.explains,
    free_explained s v past.created ends.explains keeps (followed_behind past disk v.rule (ends.onward.rule ∙ is) left),
  )
  ended_explained disk past is left None none = tt

  module _ (moment created : ℕ) (follows : IsFollowed (opening_view p).rule created) where
    -- a run of the pool has left the device
    abbrev LeavesHistory : Dev → Type 0
    LeavesHistory d = ∥ ((past : Past) × (past.created ≡ created) × AreSafe (G.disk d) past × IsLeft past (G.disk d)) ∥₁

    pub finished_history : (answer : Result Group PoolError) (d : Dev) → SyncsAtEnd p moment answer d → LeavesHistory d
    finished_history answer d finished = ∥∥₁_map (finished_left p moment answer d created finished keeps follows) (λ left. (since created finished.after.past, refl, left.0, left.1))

    pub refused_history : (e : PoolError) (r : Option Dev) → Finishes p moment (Err (e, r)) → IfSome r LeavesHistory
    refused_history e (Some d) finished = finished_history (Err e) d finished
    refused_history e None none = tt
