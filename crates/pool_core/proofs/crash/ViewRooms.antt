-- What a pool shows leaves in each of its views the place of the next log block, and room for an import.
use Rattle.std.proofs.Common.{◌≡◌, ◌⊎◌, ℕ, true, List, Some}
use Rattle.std.specs.Prelude.{◌≢◌}
use Rattle.base.specs.kept.Layout.{header_now}
use Rattle.base.specs.kept.LogRoom.{HasImportRoom}
use Rattle.base.specs.kept.LogSteps.{IsSpareOf}
use Rattle.base.specs.kept.PoolViews.{IsViewOf}
use Rattle.base.specs.kept.Views.{View}
use Rattle.base.specs.declared.pointer.Pointer.{Pointer}
use Rattle.base.specs.formats.Blocks.{Frame}
use Rattle.base.specs.formats.Chain.{Header}
use Rattle.base.specs.formats.Fields.{no_pointer}
use Rattle.base.specs.history.Past.{Past}
use Rattle.base.specs.steps.Exact.{AreDistinctPlaces, AreFree}
use Rattle.base.specs.steps.Tables.{AreTablesExplained}
use Rattle.base.specs.steps.Locks.{is_in}
use Rattle.base.specs.steps.Shown.{Shown, SyncPlan, taken_of}
use Rattle.base.specs.kept.PlacedTrees.{HoldsTree}
use Rattle.base.specs.tree.Places.{IsInTree, IsPlace, Place}
use Rattle.base.specs.tree.Places.Place.{Root}
use Rattle.base.proofs.crash.PoolRoom.{next_spare, open_above, synced_room, syncing_room}

-- each block of a view's tree is one of the synced tree, or taken by the running sync
abbrev pub HasKeptBlocks : List ℕ → Shown → View → Type 0
HasKeptBlocks now s v = (place : Place) → IsPlace place → v.pointers place ≢ no_pointer → IsInTree now s.root (v.pointers place).address ⊎ (is_in (v.pointers place).address (taken_of s.sync) ≡ true)

module _ (s : Shown) (p : Past) (explained : AreTablesExplained s p) (now : List ℕ) (free : AreFree now s) (places : AreDistinctPlaces now s) where
  pub next_apart : (flushed : ℕ) (v : View) (group : ℕ) (root : Pointer) (header : Header) → IsViewOf flushed v s p group root header → HasKeptBlocks now s v → IsSpareOf v s.log.next.address
  next_apart flushed v group root header is tree =
      (next_spare s p explained.exact.log explained.exact.sync explained.exact.charges explained.exact.blocks explained.exact.groups explained.exact.isolated now free places flushed v group root header is tree).1

  pub synced_has_room : (flushed : ℕ) (v : View) (frame : Frame) → HoldsTree now frame v.pointers v.synced.objects → v.pointers Root ≡ s.root → IsViewOf flushed v s p s.line.synced s.root (header_now s.log) → HasImportRoom s.blocks v
  synced_has_room flushed v frame holds root is =
      synced_room s p explained.exact.log explained.exact.sync explained.exact.charges explained.exact.blocks explained.exact.groups explained.exact.isolated now free places flushed v frame holds root (open_above s.line explained.exact.groups.line) is

  pub syncing_has_room : (flushed : ℕ) (v : View) (group : ℕ) (plan : SyncPlan) → s.line.syncing ≡ Some group → s.sync ≡ Some plan → HasKeptBlocks now s v → IsViewOf flushed v s p group plan.root plan.header → HasImportRoom s.blocks v
  syncing_has_room flushed v group plan syncing running tree is =
      syncing_room s p explained.exact.log explained.exact.sync explained.exact.charges explained.exact.blocks explained.exact.groups explained.exact.isolated now free places flushed v group plan syncing running tree is
