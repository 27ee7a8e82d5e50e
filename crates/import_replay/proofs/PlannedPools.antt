-- What a plan makes of the tree of an image may be synced over it: the tree stands if just the plan's blocks are
-- written, and these are blocks of a tree. The first log block is none of it. The new tree has the blocks of the plan,
-- and those of the old tree that the plan does not replace.
use Rattle.std.proofs.Common.{◌≡◌, ⊎_elim, inl, inr, ℕ, ◌+◌, ◌*◌, ◌<◌, ◌≤◌, List, length, map, None, Some, refl, sym, ◌∙◌, ap, subst, arith}
use Rattle.std.specs.Prelude.{◌≢◌, ◌⊎◌, slice_get}
use Rattle.std.specs.Ordering.{nat_cmp}
use Rattle.std.specs.FinMap as finite
use Rattle.std.specs.FinMap.{FinMap}
use Rattle.std.proofs.lemmas.Option.{slice_get_within}
use Rattle.base.specs.tree.Mount.{IsUsed, records_above}
use Rattle.base.specs.declared.pointer.Pointer.{Pointer}
use Rattle.base.specs.disk.Disk.{IsInRange}
use Rattle.base.specs.formats.Chain.{LogPiece}
use Rattle.base.specs.formats.Fields.{no_pointer, number_at, part}
use Rattle.base.specs.formats.Geometry.{IsBlockAddress, block_address, block_area, block_count, block_size}
use Rattle.base.specs.formats.Limits.{object_count}
use Rattle.base.specs.formats.Uberblocks.{Uberblock}
use Rattle.base.specs.kept.Stored.{AreBlocks, AreUsed, LeavesTree}
use Rattle.base.specs.kept.PlacedTrees.{HoldsTree, IsPlaced}
use Rattle.base.specs.tree.Places.{IsInTree, IsPlace, Place, kind_of}
use Rattle.base.specs.tree.Places.Place.{Data, Directory, Indirect, Root, Top}
use Rattle.base.specs.kept.PlannedTrees.{AreFreed, IsBlockWritten, IsTreePlan, NewBlock, SameBlock}
use Rattle.base.proofs.common.KeptLists.{All-each, at-map}
use Rattle.base.proofs.disk.Put.{part_same}
use Rattle.base.proofs.disk.WrittenBlocks.{blocks-apart, new-stand, planned-written, put_blocks}
use Rattle.base.proofs.stored.StoredSets.{map-at}
use Rattle.base.proofs.tree.PlacedTrees.{holds-placed, in-tree, opens-at, told-in_tree}
use Rattle.base.proofs.tree.FreedBlocks.{IsNewAddress, freed-left, in-new_tree, stays-or_freed}
use Rattle.base.proofs.tree.PlannedTrees.{planned-holds}
use Rattle.base.proofs.tree.SamePlaces.{holds_as}
use Rattle.contents.specs.ContentsShown.{contents_of}
use Rattle.tree_blocks.specs.Pointers.{pointers_of}
use Rattle.sync.specs.Made.{BlocksWritten}
use Rattle.tree_plans.specs.Plans.{address_of, new_block}
use Rattle.tree_plans.specs.declared.planner.PlannedBlock.{PlannedBlock}
use Rattle.base.specs.formats.Versions.{written_version}
use Rattle.import_replay.specs.PlacedRecords.{placed_estimate}
use Rattle.import_replay.specs.FreeBlocks.{IsNamed}
use Rattle.import_replay.specs.ImportViews.{IsTreeMade}
use Rattle.import_replay.specs.NextPools.{AreMadeOver, IsUnusedBlock, PoolParts, next_frame, tree_of}
use Rattle.import_replay.specs.ReadPools.{frame_of_size}
use Rattle.import_replay.proofs.LeftBlocks.{AreMadeOf}
use Rattle.import_replay.proofs.MountedPools.{named-of_tree, not_zero, tree-of_named}
use Rattle.import_replay.specs.TakenBlocks.{AreForEachPlace, AreLowestSpare}

-- the block of a tree's place is neither a config nor a log block
of_tree : (place : Place) → (kind_of place ≢ 1) × (kind_of place ≢ 6)
of_tree Root = (λ same. omega (arith, same), λ same. omega (arith, same))
of_tree (Directory d) = (λ same. omega (arith, same), λ same. omega (arith, same))
of_tree (Top n) = (λ same. omega (arith, same), λ same. omega (arith, same))
of_tree (Indirect n) = (λ same. omega (arith, same), λ same. omega (arith, same))
of_tree (Data n r) = (λ same. omega (arith, same), λ same. omega (arith, same))

module _ (image : List ℕ) (size : ℕ) (u : Uberblock) (chain : List LogPiece) (blocks : List PlannedBlock) (are : AreBlocks (block_count size) (map new_block blocks))
    (free : (i : ℕ) (b : PlannedBlock) → slice_get blocks i ≡ Some b → IsUsed image u.root chain (block_address b.index) → ⊥)
    (old : Place → Pointer) (before : FinMap nat_cmp (List ℕ)) (root : old Root ≡ u.root) (held : HoldsTree image (frame_of_size u size) old before) (newer : u.version ≤ written_version)
    (p : PoolParts) (new : Place → Pointer) (same : (place : Place) → IsPlace place → pointers_of p.contents.tree place ≡ new place)
    (planned : IsTreePlan (map new_block blocks) (next_frame u size) old new before (contents_of p.contents).objects)
    (no_others : (n : ℕ) → object_count ≤ n → finite.get (contents_of p.contents).objects n ≡ None) where
  abbrev after : FinMap nat_cmp (List ℕ)
  after = (contents_of p.contents).objects

  placed : (i : ℕ) (b : PlannedBlock) → slice_get blocks i ≡ Some b → IsBlockAddress (block_count size) (block_address b.index)
  placed i b at = are.in_area i (new_block b) (map-at new_block blocks i b at)

  -- no block is one of the tree before
  leaves : LeavesTree (map new_block blocks) old
  leaves place in_range some i n at same =
      let (b, there, is) = at-map new_block blocks i n at in
      let address : block_address b.index ≡ (old place).address = ap (λ (x : NewBlock). x.address) is ∙ same in
      free i b there (inl (subst (λ (a : ℕ). IsInTree image u.root a) (sym address)
      (subst (λ (r : Pointer). IsInTree image r (old place).address) root (told-in_tree image (frame_of_size u size) old before held place in_range some))))

  module _ (other : List ℕ) (long : length other ≡ length image) (written : BlocksWritten image size blocks (length blocks) other) where
    -- a new block stands
    stands : (i : ℕ) (n : NewBlock) → slice_get (map new_block blocks) i ≡ Some n → IsBlockWritten other (block_count size) n
    stands i n at =
        let (b, there, same) = at-map new_block blocks i n at in
        subst (λ (x : NewBlock). IsBlockWritten other (block_count size) x) same
        (record { in_area = placed i b there; stands = written.each i b (slice_get_within blocks i b there) there })

    -- and a block of the tree before stays
    stays : (place : Place) → IsPlace place → SameBlock image other (old place)
    stays place in_range some = at_place (holds-placed image (frame_of_size u size) old before held place in_range)
      where
        address : ℕ
        address = (old place).address

        not_here : IsBlockAddress (block_count size) address → (i k : ℕ) (b : PlannedBlock) → slice_get blocks k ≡ Some b → address ≤ i → i < address + block_size
            → IsInRange (block_address b.index) block_size i → ⊥
        not_here is i k b there from to here =
            elim (blocks-apart (block_count size) (block_address b.index) address (placed k b there) is (leaves place in_range some k (new_block b) (map-at new_block blocks k b there))) as (λ _. ⊥) [
              | inl less ↦ omega (arith, less, from, here.1)
              | inr more ↦ omega (arith, more, to, here.0)
            ]

        at_place : IsPlaced (block_count size) (old place) → part other address block_size ≡ part image address block_size
        at_place (inl none) = absurd (some none)
        at_place (inr is) = part_same other image address block_size long (λ i from to.
            let low : is.0 < block_count size = is.1 in
            let there : address ≡ block_address is.0 = is.2 in
            written.others i (omega (arith, from, there)) (omega (arith, to, there, low)) (λ k b early at here. not_here is i k b at from to here))

  planned_made : IsTreeMade image size blocks (next_frame u size) (tree_of p)
  planned_made other long written =
      holds_as other (next_frame u size) new (pointers_of p.contents.tree) same after
      (planned-holds image other (frame_of_size u size) (next_frame u size) refl refl (omega arith) newer (map new_block blocks) (stands other long written) old new before after held planned
      (λ place in_range same. stays other long written place in_range) no_others)

  module _ (used : AreUsed (map new_block blocks) new) (room : block_area + block_size * block_count size ≤ length image) where
    abbrev bs : List NewBlock
    bs = map new_block blocks

    -- an image with the blocks
    abbrev other : List ℕ
    other = put_blocks bs image

    news : HoldsTree other (next_frame u size) new after
    news = planned-written image (frame_of_size u size) (next_frame u size) bs old new before after refl refl (omega arith) newer held planned no_others are leaves room

    -- the pool's pointers name just the blocks that this image has in the new tree
    in_other : (address : ℕ) → address ≢ 0 → IsNamed (pointers_of p.contents.tree) address → IsInTree other (new Root) address
    in_other address some (place, in_range, at) =
        let named : (new place).address ≡ address = ap (λ (q : Pointer). q.address) (sym (same place in_range)) ∙ at in
        subst (λ (a : ℕ). IsInTree other (new Root) a) named
        (told-in_tree other (next_frame u size) new after news place in_range (λ none. some (sym named ∙ ap (λ (q : Pointer). q.address) none)))

    of_other : (address : ℕ) → IsInTree other (new Root) address → IsNamed (pointers_of p.contents.tree) address
    of_other address is =
        let (place, in_range, at, some) = in-tree other (next_frame u size) new after news address is in
        (place, in_range, ap (λ (q : Pointer). q.address) (same place in_range) ∙ at)

    -- a block of the new tree is one of the old tree or of the plan
    named_from : (address : ℕ) → address ≢ 0 → IsNamed (pointers_of p.contents.tree) address → IsInTree image (old Root) address ⊎ IsNewAddress bs address
    named_from address some named = in-new_tree image other (frame_of_size u size) (next_frame u size) bs old new before after held news planned leaves address (in_other address some named)

    -- and each block of the plan is one of the new tree
    new_named : (i : ℕ) (b : PlannedBlock) → slice_get blocks i ≡ Some b → IsNamed (pointers_of p.contents.tree) (block_address b.index)
    new_named i b at =
        let (place, in_range, named) = used i (new_block b) (map-at new_block blocks i b at) in
        (place, in_range, ap (λ (q : Pointer). q.address) (same place in_range) ∙ named)

    -- so the new pointers come from the old ones, where just the blocks come back that the plan replaces
    pub pointers_made : (freed : List ℕ) → AreFreed old new freed → AreMadeOf (block_count size) old blocks freed (pointers_of p.contents.tree)
    pointers_made freed are_freed = record {
      named_from = λ address at named. ⊎_elim (λ is. inl (named-of_tree image (frame_of_size u size) old before held address is)) (λ there. inr (planned_at_address address there))
          (named_from address (not_zero (block_count size) address at) named);
      new_named = new_named;
      freed_unnamed = λ address at there named.
          freed-left image other (frame_of_size u size) (next_frame u size) bs old new before after held news planned leaves freed are_freed there.0 address there.1 (in_other address (not_zero (block_count size) address at) named);
      stays_or_freed = λ address at named. ⊎_elim (λ stays. inl (of_other address stays)) (λ came. inr came)
          (stays-or_freed image other (frame_of_size u size) (next_frame u size) bs old new before after held news planned leaves freed are_freed address
          (tree-of_named image (frame_of_size u size) old before held address (not_zero (block_count size) address at) named));
    }
      where
        planned_at_address : (address : ℕ) → IsNewAddress bs address → (i : ℕ) × (b : PlannedBlock) × (slice_get blocks i ≡ Some b) × (block_address b.index ≡ address)
        planned_at_address address (i, n, there, is_at) =
            let (b, there_b, is_b) = at-map new_block blocks i n there in
            (i, b, there_b, ap (λ (x : NewBlock). x.address) is_b ∙ is_at)

    -- each block is that of a place of the new tree
    kind_is : (i : ℕ) (b : PlannedBlock) → slice_get blocks i ≡ Some b → (place : Place) × (number_at b.block 0 ≡ kind_of place)
    kind_is i b at =
        let there : slice_get bs i ≡ Some (new_block b) = map-at new_block blocks i b at in
        let (place, in_range, named) = used i (new_block b) there in
        let some : new place ≢ no_pointer = λ none. (let zero_is : (new place).address ≡ 0 = ap (λ (q : Pointer). q.address) none in omega (arith, zero_is, named)) in
        let o = opens-at other (next_frame u size) new after news place in_range some in
        let stands_there : part other (block_address b.index) block_size ≡ b.block = (new-stand (block_count size) bs image are room i (new_block b) there).stands in
        (place, ap (λ (l : List ℕ). number_at l 0) (sym stands_there) ∙ ap (λ (a : ℕ). number_at (part other a block_size) 0) (sym named) ∙ o.1.block.kind_is)

    -- So the pool is made over the image, with the first log block that is neither used nor one of the plan.
    pub planned_over : (length blocks ≤ placed_estimate (records_above u.group chain)) → AreLowestSpare image u chain (map address_of blocks) → AreForEachPlace image u chain (pointers_of p.contents.tree) (map address_of blocks)
        → p.records ≡ length (records_above u.group chain) → p.log_address ≢ 0 → (IsUsed image u.root chain p.log_address → ⊥) → (IsNewAddress bs p.log_address → ⊥)
        → ((address : ℕ) → address < p.log_address → IsBlockAddress (block_count size) address → IsUsed image u.root chain address ⊎ ((i : ℕ) × (b : PlannedBlock) × (slice_get blocks i ≡ Some b) × (block_address b.index ≡ address)))
        → AreMadeOver image u chain size blocks p
    planned_over few lowest each records some log_unused log_left log_lowest = record {
      tree = planned_made;
      unused = All-each (IsUnusedBlock image u chain) blocks (λ i b at.
          let (place, kind) = kind_is i b at in
          record {
            not_config = λ same. (of_tree place).0 (sym kind ∙ same);
            not_log = λ same. (of_tree place).1 (sym kind ∙ same);
            unused = free i b at;
          });
      few = few;
      lowest = lowest;
      each = each;
      records = records;
      log_unused = log_unused;
      log_unnamed = λ named. ⊎_elim (λ old_tree. log_unused (inl (subst (λ (r : Pointer). IsInTree image r p.log_address) root old_tree))) log_left (named_from p.log_address some named);
      log_lowest = λ address below is. ⊎_elim (λ is_used. inl is_used) (λ planned. inr (subst (λ (a : ℕ). IsNamed (pointers_of p.contents.tree) a) planned.3 (new_named planned.0 planned.1 planned.2))) (log_lowest address below is);
    }
