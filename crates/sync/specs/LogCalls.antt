-- What the pool does with its log between two calls of a sync: it writes a block at a spare place, or flushes. Both
-- views have the block, and a flush fixes all log blocks of both.
use Rattle.std.specs.Prelude.{ℕ, ◌≢◌, All, List, [], ◌∷◌, ◌++◌, Result, Ok, Err}
use Rattle.base.specs.declared.error.PoolError.{PoolError}
use Rattle.base.specs.kept.LogSteps.{IsSpareOf}
use Rattle.base.specs.tree.Mount.{header_of}
use Rattle.base.specs.kept.Views.{AreLinked, HasCut, Logged, View, header_behind}
use Rattle.base.specs.disk.Disk.{put}
use Rattle.base.specs.formats.Geometry.{block_address, block_count}
use Rattle.tree_plans.specs.declared.planner.PlannedBlock.{PlannedBlock}
use Rattle.sync.specs.declared.run.SyncRun.{SyncRun}
use Rattle.sync.specs.Phases.{SyncViews}

-- The log of a view goes on with this block, at an address that neither its tree nor its log has. With it the log is
-- cut into pieces still.
pub record IsNextLogBlock (size : ℕ) (v : View) (l : Logged) : Type 0 where
  pub linked : AreLinked v.u.guid (block_count size) v.u.import_number (header_behind (header_of v.u) v.logged) (l ∷ [])
  pub cut : HasCut v.u.version (v.logged ++ l ∷ [])
  pub spare : IsSpareOf v l.block.address

-- the logs of both views go on with this block, and no block of the sync has its address
pub record IsNextInBoth (run : SyncRun) (v : SyncViews) (l : Logged) : Type 0 where
  pub old : IsNextLogBlock run.geometry v.old l
  pub new : IsNextLogBlock run.geometry v.new l
  pub no_block : All (λ (b : PlannedBlock). block_address b.index ≢ l.block.address) run.blocks.items

-- the views with one log block more
abbrev pub with_log_block : Logged → SyncViews → SyncViews
with_log_block l v = record v { old = record v.old { logged = v.old.logged ++ l ∷ [] }; new = record v.new { logged = v.new.logged ++ l ∷ [] } }

-- the bytes that a sync writes over have the block if its write was answered Ok
abbrev pub base_with : Result (Unit {0}) PoolError → Logged → List ℕ → List ℕ
base_with (Ok x) l base = put l.block.address l.content base
base_with (Err e) l base = base
