-- The trees of a running sync's views. That of the old view stands in what a read gives. Each block of the new view's
-- is one of it, or taken. A log block beside them leaves them.
use Rattle.std.proofs.Common.{◌≡◌, ◌∙◌, ◌⊎◌, inl, inr, ℕ, ◌+◌, ◌<◌, ◌≤◌, true, List, length, map, Ok, Err, Result, Some, refl, ap, sym, subst, arith}
use Rattle.std.specs.Prelude.{◌≢◌, slice_get}
use Rattle.base.specs.kept.Views.{Logged, view_frame}
use Rattle.base.specs.declared.error.PoolError.{PoolError}
use Rattle.base.specs.disk.Disk.{Moment, bytes_of, put}
use Rattle.base.specs.formats.Fields.{no_pointer}
use Rattle.base.specs.formats.Geometry.{IsBlockAddress, block_count, block_size}
use Rattle.base.specs.steps.Locks.{is_in}
use Rattle.base.specs.steps.Shown.{Shown, taken_of}
use Rattle.base.specs.kept.PlacedTrees.{HoldsTree}
use Rattle.base.specs.tree.Places.{IsInTree, IsPlace, Place}
use Rattle.base.specs.tree.Places.Place.{Root}
use Rattle.base.specs.kept.PlannedTrees.{NewBlock, SameBlock}
use Rattle.base.specs.formats.Blocks.{Frame}
use Rattle.base.specs.declared.pointer.Pointer.{Pointer}
use Rattle.base.proofs.common.KeptLists.{All-at, at-map}
use Rattle.base.proofs.disk.Put.{part-put_apart}
use Rattle.base.proofs.disk.WrittenBlocks.{blocks-apart}
use Rattle.base.proofs.tree.PlacedTrees.{holds-placed, told-in_tree}
use Rattle.base.proofs.tree.PlannedTrees.{holds-elsewhere}
use Rattle.tree_plans.specs.Plans.{new_block}
use Rattle.tree_plans.specs.declared.planner.PlannedBlock.{PlannedBlock}
use Rattle.sync.specs.LogCalls.{IsNextInBoth, base_with, with_log_block}
use Rattle.sync.specs.Phases.{IsSpareBlock, IsUnderWay, SyncViews}
use Rattle.sync.specs.declared.run.SyncRun.{SyncRun}
use Rattle.sync.proofs.Blocks.{blocks_written}
use Rattle.sync.proofs.Targets.{is_sound}
use Rattle.pool_core.specs.KeptSafe.{AreSyncTrees}
use Rattle.pool_core.proofs.crash.StartedViews.{others_stay}
use Rattle.pool_core.proofs.crash.ViewRooms.{HasKeptBlocks}

module _ (base : List ℕ) (m : Moment) (run : SyncRun) (v : SyncViews) (taken : List ℕ) (way : IsUnderWay base v run m) (trees : AreSyncTrees base run v taken) where
  abbrev frame : Frame
  frame = view_frame run.geometry v.old

  -- each block that is written lies in the area
  placed : (i : ℕ) (b : NewBlock) → slice_get (map new_block run.blocks.items) i ≡ Some b → IsBlockAddress (block_count run.geometry) b.address
  placed i b at =
      let c = at-map new_block run.blocks.items i b at in
      (c.0.index, All-at (λ (x : PlannedBlock). x.index < block_count run.geometry) run.blocks.items i c.0 run.placed c.1, ap (λ (x : NewBlock). x.address) (sym c.2))

  -- and is none of the old view's tree
  unwritten : (place : Place) → IsPlace place → v.old.pointers place ≢ no_pointer → (i : ℕ) (b : NewBlock) → slice_get (map new_block run.blocks.items) i ≡ Some b → b.address ≢ (v.old.pointers place).address
  unwritten place in_range some i b at same =
      let c = at-map new_block run.blocks.items i b at in
      let spare : IsSpareBlock v c.0 = All-at (IsSpareBlock v) run.blocks.items i c.0 way.leads.blocks c.1 in
      spare.not_in_tree place in_range some (ap (λ (x : NewBlock). x.address) c.2 ∙ same)

  in_area : (place : Place) → IsPlace place → v.old.pointers place ≢ no_pointer → IsBlockAddress (block_count run.geometry) (v.old.pointers place).address
  in_area place in_range some = elim (holds-placed base frame v.old.pointers v.old.synced.objects trees.old place in_range) as (λ _. IsBlockAddress (block_count run.geometry) (v.old.pointers place).address) [
    | inl none ↦ absurd (some none)
    | inr is ↦ is
  ]

  same : (place : Place) → IsPlace place → SameBlock base (bytes_of m) (v.old.pointers place)
  same place in_range some =
      others_stay base (bytes_of m) run.geometry run.blocks.items run.done way.made.size (blocks_written base (bytes_of m) run (is_sound run run.sized) way.made) placed
      (v.old.pointers place).address (in_area place in_range some) (unwritten place in_range some)

  pub old_now : HoldsTree (bytes_of m) frame v.old.pointers v.old.synced.objects
  old_now = holds-elsewhere base (bytes_of m) frame frame refl refl (omega arith) (omega arith) v.old.pointers v.old.synced.objects trees.old same

  module _ (s : Shown) (root : v.old.pointers Root ≡ s.root) (of_sync : taken ≡ taken_of s.sync) where
    pub old_kept : HasKeptBlocks (bytes_of m) s v.old
    old_kept place in_range some =
        inl (subst (λ (r : Pointer). IsInTree (bytes_of m) r (v.old.pointers place).address) root (told-in_tree (bytes_of m) frame v.old.pointers v.old.synced.objects old_now place in_range some))

    pub new_kept : HasKeptBlocks (bytes_of m) s v.new
    new_kept place in_range some = elim (trees.new place in_range some) as (λ _. IsInTree (bytes_of m) s.root (v.new.pointers place).address ⊎ (is_in (v.new.pointers place).address (taken_of s.sync) ≡ true)) [
      | inl there ↦
          inl (subst (λ (a : ℕ). IsInTree (bytes_of m) s.root a) there.3
          (subst (λ (r : Pointer). IsInTree (bytes_of m) r (v.old.pointers there.0).address) root (told-in_tree (bytes_of m) frame v.old.pointers v.old.synced.objects old_now there.0 there.1 there.2)))
      | inr is ↦ inr (subst (λ (l : List ℕ). is_in (v.new.pointers place).address l ≡ true) of_sync is)
    ]

  -- with a log block that the logs of both views go on with
  module _ (l : Logged) (next : IsNextInBoth run v l) (fits : l.block.address + length l.content ≤ length base) where
    log_area : IsBlockAddress (block_count run.geometry) l.block.address
    log_area = subst (λ (a : ℕ). IsBlockAddress (block_count run.geometry) a) (sym next.old.linked.0.0) next.old.linked.0.2

    whole : length l.content ≡ block_size
    whole = next.old.linked.0.3.sealed.size

    beside : (place : Place) → IsPlace place → SameBlock base (put l.block.address l.content base) (v.old.pointers place)
    beside place in_range some =
        let address : ℕ = (v.old.pointers place).address in
        part-put_apart l.block.address l.content base address block_size fits
        (rw whole (blocks-apart (block_count run.geometry) l.block.address address log_area (in_area place in_range some) (λ same. next.old.spare.not_in_tree place in_range some (sym same))))

    pub trees_with : (r : Result (Unit {0}) PoolError) → AreSyncTrees (base_with r l base) run (with_log_block l v) taken
    trees_with (Ok u) = record {
      old = holds-elsewhere base (put l.block.address l.content base) frame frame refl refl (omega arith) (omega arith) v.old.pointers v.old.synced.objects trees.old beside;
      new = trees.new;
      blocks = trees.blocks;
    }
    trees_with (Err e) = record { old = trees.old; new = trees.new; blocks = trees.blocks }
