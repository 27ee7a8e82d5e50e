-- A pool that an import gave is opened as it was imported, at once or at the second time, and none of its transactions
-- is open.
use Rattle.std.proofs.Common.{◌≡◌, ◌∙◌, ℕ, ap, sym, subst}
use Rattle.std.specs.Prelude.{IsTrue, [], true}
use Rattle.base.specs.disk.Disk.{Disk}
use Rattle.device_model.specs.MemState.{MemState}
use Rattle.mounted.specs.ShownMounted.{shown_of_import}
use Rattle.mounted.specs.declared.mounted.Mounted.{Mounted}
use Rattle.pool_threads.specs.Handles.{IsReadyToOpen, OpensBehind, ShowsMounted}
use Rattle.pool_threads.specs.Views.{SeenPool, view_behind_disk, viewed_state}
use Rattle.scripts.specs.OwnPools.{MemPool}

module _ (old : Disk) (m : Mounted) (cache_blocks : ℕ) (device : MemState) (s : MemPool) (ready : IsReadyToOpen old m cache_blocks device s) (v : SeenPool) (is : v ≡ view_behind_disk s old) where
  pub opens_so : OpensBehind (IsTrue true) old (shown_of_import m).dirty_max v
  opens_so = subst (λ (w : SeenPool). OpensBehind (IsTrue true) old (shown_of_import m).dirty_max w) (sym is) ready.opens

  pub shows_so : ShowsMounted m cache_blocks device.disk v
  shows_so = record {
    shown = ap (λ (w : SeenPool). (viewed_state w).shown) is ∙ ap (λ a. a.shown) ready.explains.state ∙ ready.shown_is;
    cache_is = ap (λ (w : SeenPool). w.cache_room) is ∙ ready.cache_is;
    disk_is = ap (λ (w : SeenPool). w.disk) is ∙ ap (λ (d : MemState). d.disk) ready.device_is;
  }
