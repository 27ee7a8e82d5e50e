-- What is known of a sync while it runs.
use Rattle.std.specs.Prelude.{ℕ, ◌≡◌, ◌<◌, List, Option}
use Rattle.base.specs.declared.pointer.Pointer.{Pointer}
use Rattle.base.specs.formats.Geometry.{block_count}
use Rattle.base.specs.formats.Uberblocks.{Uberblock}
use Rattle.base.specs.kept.PlacedTrees.{ArePlaced}
use Rattle.base.specs.tree.Places.{Place}
use Rattle.labels.specs.declared.stage.Stage.TheVariants.{Even}
use Rattle.sync.specs.GroupLabels.{WritesUberblock, stages_for}
use Rattle.sync.specs.Runs.{call_count}
use Rattle.sync.specs.declared.run.SyncRun.{SyncRun}

-- It has calls left, on a device of this size. It writes this uberblock, and its tree has these pointers. If its group
-- gives a name, it has the label stages of that name.
pub record IsRunning (size : ℕ) (u : Uberblock) (pointers : Place → Pointer) (given : Option (List ℕ)) (run : SyncRun) : Type 0 where
  pub geometry : run.geometry ≡ size
  pub stages : run.stages ≡ stages_for u.guid u.group size Even given
  pub left : run.done < call_count run
  pub uberblock : WritesUberblock u run
  pub placed : ∥ ArePlaced (block_count size) pointers ∥₁
