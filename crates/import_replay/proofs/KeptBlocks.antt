-- The blocks that an import writes are none of the image's tree or chain, so each block of these stays; and none of
-- them is a log block.
use Rattle.std.proofs.Common.{◌≡◌, ◌≢◌, inl, inr, ℕ, ◌<◌, Bool, true, false, List, length, refl, sym, ◌∙◌, ap, subst, arith}
use Rattle.std.specs.Prelude.{All}
use Rattle.std.specs.Ordering.{nat_cmp}
use Rattle.std.specs.FinMap.{FinMap}
use Rattle.std.proofs.lemmas.Bool.{false≢true}
use Rattle.std.proofs.lemmas.Option.{slice_get_within}
use Rattle.base.specs.tree.Mount.{IsChainOf, IsUsed, frame_of, header_of}
use Rattle.base.specs.declared.pointer.Pointer.{Pointer}
use Rattle.base.specs.formats.Chain.{LogPiece}
use Rattle.base.specs.formats.Fields.{no_pointer, number_at, part}
use Rattle.base.specs.formats.Geometry.{IsBlockAddress, block_address, block_count, block_size}
use Rattle.base.specs.formats.Uberblocks.{Uberblock}
use Rattle.base.specs.kept.PlacedTrees.{IsPlaced}
use Rattle.base.specs.tree.Places.{IsInTree}
use Rattle.base.proofs.common.KeptLists.{All-at}
use Rattle.base.proofs.crash.OneMount.{one-active, one-chain}
use Rattle.base.proofs.disk.Put.{part_same}
use Rattle.base.proofs.disk.WrittenBlocks.{blocks-apart}
use Rattle.base.proofs.tree.PlacedTrees.{holds-placed, in-tree}
use Rattle.intent_log.specs.Chains.{IsSoundPiece}
use Rattle.tree_blocks.specs.Pointers.{pointers_of}
use Rattle.tree_blocks.specs.declared.tree.Tree.{Tree}
use Rattle.sync.specs.Made.{BlocksWritten}
use Rattle.tree_plans.specs.declared.planner.PlannedBlock.{PlannedBlock}
use Rattle.import_replay.specs.LabelSyncs.{AreApartIn}
use Rattle.import_replay.specs.FreeBlocks.{is_planned}
use Rattle.import_replay.specs.Mounts.{KeepsUsedBlocks, WritesNoLogBlock}
use Rattle.import_replay.specs.NextPools.{IsUnusedBlock}
use Rattle.import_replay.specs.ReadPools.{HoldsPool, frame_of_size}
use Rattle.import_replay.proofs.FreeBlocks.{at_planned, planned_at}
use Rattle.import_replay.proofs.ReadPools.{sound_in_area}

-- what was read of an image, and blocks that are none of it
module _ (size : ℕ) (u : Uberblock) (name : List ℕ) (tree : Tree) (objects : FinMap nat_cmp (List ℕ)) (chain : List LogPiece) (image now : List ℕ) (blocks : List PlannedBlock)
    (sound : All (IsSoundPiece (block_count size)) chain) (read : HoldsPool image size u name tree objects chain) (unused : All (IsUnusedBlock image u chain) blocks)
    (apart : AreApartIn size blocks) (long : length now ≡ length image) (written : BlocksWritten image size blocks (length blocks) now) where
  -- what is used lies in the area
  in_area : (address : ℕ) → IsUsed image u.root chain address → IsBlockAddress (block_count size) address
  in_area address (inl is) =
      let (place, in_range, at, some) = in-tree image (frame_of_size u size) (pointers_of tree) objects read.held address (subst (λ (r : Pointer). IsInTree image r address) (sym read.root) is) in
      by_pointer (pointers_of tree place) at some (holds-placed image (frame_of_size u size) (pointers_of tree) objects read.held place in_range)
    where
      by_pointer : (p : Pointer) → p.address ≡ address → (p ≡ no_pointer → ⊥) → IsPlaced (block_count size) p → IsBlockAddress (block_count size) address
      by_pointer p at some (inl none) = absurd (some none)
      by_pointer p at some (inr there) = subst (λ (a : ℕ). IsBlockAddress (block_count size) a) at there
  in_area address (inr is) = sound_in_area (block_count size) chain sound address is

  stays : (address : ℕ) → IsUsed image u.root chain address → IsBlockAddress (block_count size) address → part now address block_size ≡ part image address block_size
  stays address used (k, low, there) = part_same now image address block_size long (λ i from to.
      written.others i (omega (arith, from, there)) (omega (arith, to, there, low)) (λ j b early at here.
      let other : block_address b.index ≢ address = λ same. (All-at (IsUnusedBlock image u chain) blocks j b unused at).unused (subst (λ (a : ℕ). IsUsed image u.root chain a) (sym same) used) in
      let index : b.index < block_count size = All-at (λ (x : PlannedBlock). x.index < block_count size) blocks j b apart.in_area at in
      elim (blocks-apart (block_count size) (block_address b.index) address (b.index, index, refl) (k, low, there) other) as (λ _. ⊥) [
        | inl before ↦ omega (arith, before, from, here.1)
        | inr behind ↦ omega (arith, behind, to, here.0)
      ]))

  -- a block that is not written stays
  unwritten_stays : (k : ℕ) → k < block_count size → is_planned k blocks ≡ false → part now (block_address k) block_size ≡ part image (block_address k) block_size
  unwritten_stays k low left = part_same now image (block_address k) block_size long (λ i from to.
      written.others i (omega (arith, from)) (omega (arith, to, low)) (λ j b early at here.
      let other : block_address b.index ≢ block_address k = λ same. false≢true (sym left ∙ at_planned k blocks j b at same) in
      let index : b.index < block_count size = All-at (λ (x : PlannedBlock). x.index < block_count size) blocks j b apart.in_area at in
      elim (blocks-apart (block_count size) (block_address b.index) (block_address k) (b.index, index, refl) (k, low, refl) other) as (λ _. ⊥) [
        | inl before ↦ omega (arith, before, from, here.1)
        | inr behind ↦ omega (arith, behind, to, here.0)
      ]))

  -- and one that is written is no log block
  pub no_log_written : WritesNoLogBlock image now
  no_log_written address is kind =
      let (k, low, at) = subst (λ (n : ℕ). IsBlockAddress (block_count n) address) read.long is in
      subst (λ (a : ℕ). part now a block_size ≡ part image a block_size) (sym at) (by_flag k low (is_planned k blocks) refl (subst (λ (a : ℕ). number_at (part now a block_size) 0 ≡ 6) at kind))
    where
      by_flag : (k : ℕ) → k < block_count size → (b : Bool) → is_planned k blocks ≡ b → number_at (part now (block_address k) block_size) 0 ≡ 6 → part now (block_address k) block_size ≡ part image (block_address k) block_size
      by_flag k low true planned kind =
          let (i, b, there, same) = planned_at k blocks planned in
          let stands : part now (block_address b.index) block_size ≡ b.block = written.each i b (slice_get_within blocks i b there) there in
          absurd ((All-at (IsUnusedBlock image u chain) blocks i b unused there).not_log
          (ap (λ (l : List ℕ). number_at l 0) (sym stands) ∙ ap (λ (a : ℕ). number_at (part now a block_size) 0) same ∙ kind))
      by_flag k low false left kind = unwritten_stays k low left

  pub used_kept : KeepsUsedBlocks image now
  used_kept v others active is_chain address used =
      let same : v ≡ u = one-active image v u active read.pool.active in
      let of_u : IsChainOf image u others = subst (λ (w : Uberblock). IsChainOf image w others) same is_chain in
      let chains : others ≡ chain = one-chain image (frame_of image u) u.import_number (header_of u) others chain of_u read.chain_is in
      let here : IsUsed image u.root chain address = subst (λ (w : Uberblock). IsUsed image w.root chain address) same (subst (λ (bs : List LogPiece). IsUsed image v.root bs address) chains used) in
      stays address here (in_area address here)
