-- One history explains a pool whose lock is free, and a finished pool leaves what its run has come to.
use Rattle.std.proofs.Common.{ℕ, sym, subst}
use Rattle.std.specs.Prelude.{IsTrue, Result}
use Rattle.std.proofs.Math.Logic.{∥∥₁_map}
use Rattle.base.specs.declared.error.PoolError.{PoolError}
use Rattle.base.specs.declared.names.Group.{Group}
use Rattle.base.specs.disk.Disk.{Disk}
use Rattle.base.specs.history.Past.{Past}
use Rattle.base.specs.kept.LeftDisks.{IsLeft}
use Rattle.base.specs.steps.Explains.{AreSafe, Explains}
use Rattle.base.specs.steps.Steps.{State}
use Rattle.device_model.specs.declared.device.SectorDevice.{Ghosts}
use Rattle.pool_core.specs.KeptSafe.{IsKeptSafe, disk_of, on_disk}
use Rattle.pool_core.specs.declared.state.PoolState.{PoolState}
use Rattle.pool_core.proofs.crash.ExplainedPools.{kept_explained}
use Rattle.pool_threads.specs.Finishes.{SyncsAtEnd}
use Rattle.pool_threads.specs.Handles.{LeavesCuts, opening_view}
use Rattle.pool_threads.specs.Views as views
use Rattle.pool_threads.specs.Views.{IsFollowed, SeenPool, since, viewed_state}
use Rattle.pool_threads.specs.declared.shared.Shared.{Shared}

module _ {Dev : Type 0} {G : Ghosts Dev} where
  module _ (p : PoolState Dev G) (v : SeenPool) (created : ℕ) (x : views.Explains p v) where
    -- it is the history that explains the state, over the disk of its device
    by_kept : IsKeptSafe (on_disk p (since created v.past)) → Explains (Unit {0}) v.disk (viewed_state v).shown (since created v.past)
    by_kept kept =
        subst (λ (d : Disk). Explains (Unit {0}) d (viewed_state v).shown (since created v.past)) (sym x.disk_is)
        (subst (λ (a : State). Explains (Unit {0}) (disk_of p) a.shown (since created v.past)) (sym x.state) (kept_explained (on_disk p (since created v.past)) kept))

    pub free_explained : IsTrue G.keeps_model → IsFollowed v.rule created → ∥ Explains (Unit {0}) v.disk (viewed_state v).shown (since created v.past) ∥₁
    free_explained keeps follows = ∥∥₁_map (x.safe keeps created follows) by_kept

  module _ (p : Shared Dev G) (moment : ℕ) (answer : Result Group PoolError) (device : Dev) (created : ℕ) (finished : SyncsAtEnd p moment answer device) where
    abbrev past : Past
    past = since created finished.after.past

    -- a device that leaves the cuts of a state does so itself
    cuts_on : LeavesCuts finished.left past → AreSafe (G.disk device) past × IsLeft past (G.disk device)
    cuts_on cuts = subst (λ (d : Dev). AreSafe (G.disk d) past × IsLeft past (G.disk d)) (sym finished.given_back) (cuts.safe, cuts.left)

    pub finished_left : IsTrue G.keeps_model → IsFollowed (opening_view p).rule created → ∥ (AreSafe (G.disk device) past × IsLeft past (G.disk device)) ∥₁
    finished_left keeps follows = ∥∥₁_map (finished.leaves.cuts keeps created follows) cuts_on
