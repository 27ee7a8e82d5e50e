-- The pool that an import replayed and planned may be synced, and what is mounted of it is an import of the image.
use Rattle.std.proofs.Common.{◌≡◌, ◌⊎◌, inl, inr, ⊎_elim, ℕ, zero, suc, ◌+◌, ◌*◌, ◌<◌, ◌≤◌, Bool, true, false, cond, List, [], ◌∷◌, length, nat_eq, map, None, Some, refl, sym, ◌∙◌, ap, subst, arith}
use Rattle.std.specs.Prelude.{◌≢◌, ◌==◌, All, IfSome, not, slice_get, take}
use Rattle.std.specs.FinMap as finite
use Rattle.std.specs.FinSet as set
use Rattle.std.specs.FinSet.{FinSet, contains-insert, len-empty, len-insert}
use Rattle.std.specs.List.{AllByRecursion, IsDistinct}
use Rattle.std.specs.Ordering.{nat_cmp, eq_by_cmp}
use Rattle.std.specs.Cmp.{unsigned_tied}
use Rattle.std.proofs.lemmas.Bool.{cases_lt, eq-eqb, eqb-true, false≢true, ne_eqb, or_cases, or_left, or_right}
use Rattle.std.proofs.lemmas.Cmp.{nat_cmp_total}
use Rattle.std.proofs.lemmas.List.{length-map}
use Rattle.std.proofs.lemmas.List.Elements.{All-weaker}
use Rattle.std.proofs.Math.Logic.{∥∥₁_map}
use Rattle.base.specs.common.Rising.{rising}
use Rattle.base.specs.kept.Imports.{is_dirty_max_allowed, is_past_last}
use Rattle.base.specs.tree.Mount.{IsChainDamaged, IsUsed, Mounts, records_above}
use Rattle.base.specs.declared.error.PoolError.{PoolError}
use Rattle.base.specs.declared.error.PoolError.TheVariants.{Damaged, NoMemory}
use Rattle.base.specs.declared.operation.Op.{Op}
use Rattle.base.specs.declared.pointer.Pointer.{Pointer}
use Rattle.base.specs.disk.Disk.{Disk, bytes_of}
use Rattle.base.specs.formats.Chain.{LogPiece}
use Rattle.base.specs.formats.Geometry.{IsBlockAddress, block_address, block_area, block_count, block_size}
use Rattle.base.specs.formats.Limits.{object_count}
use Rattle.base.specs.formats.Names.{IsName}
use Rattle.base.specs.formats.Uberblocks.{Uberblock}
use Rattle.base.specs.formats.Versions.{is_version_known, written_version}
use Rattle.base.specs.history.Contents.{Contents}
use Rattle.base.specs.kept.Stored.{AreBlocks, AreUsed}
use Rattle.base.specs.kept.PlacedTrees.{ArePlaced, IsPlaced}
use Rattle.base.specs.tree.Places.{IsInTree, Place, has_block}
use Rattle.base.specs.kept.PlannedTrees.{AreFreed, IsTreePlan, NewBlock}
use Rattle.base.specs.tree.Syncs.{group_changes, written_places}
use Rattle.base.specs.tree.Tree.{IsTree}
use Rattle.base.proofs.common.KeptLists.{at_take, at-map}
use Rattle.base.proofs.crash.LogRoom.{subset_len, with_all}
use Rattle.base.proofs.formats.Geometry.{IsGeometry-IsSize}
use Rattle.base.proofs.history.KeptContents.{bounded-no_others}
use Rattle.base.proofs.tree.FreedBlocks.{IsNewAddress}
use Rattle.base.proofs.tree.PlacedTrees.{holds-tree, none_or_opens, pointers-told}
use Rattle.base.proofs.stored.StoredSets.{IsAt, map-at, rising-in, rising-rises}
use Rattle.group_plans.specs.GroupPlans.{MakesGroupTree, plan_pointers}
use Rattle.group_plans.specs.OldMaps.{HoldsOwn}
use Rattle.group_plans.proofs.GroupCounts.{AreNamedAs, plans_fit_estimates, short_of_these, short_plans_lack_blocks, takes_at_places}
use Rattle.group_plans.proofs.GroupTrees.{plans_make_trees}
use Rattle.group_plans.proofs.PlannedBlocks.{addresses_are}
use Rattle.intent_log.specs.Chains.{IsSoundPiece}
use Rattle.log_replay.specs.Replays.{IsPieceAllowed, IsChainAllowed, IsReplayCause, IsReplayRefusal}
use Rattle.contents.specs.ContentsShown.{contents_of}
use Rattle.tree_blocks.specs.TreeObjects.{objects_of}
use Rattle.trees.specs.Loading.{IsLimitedObject}
use Rattle.tree_blocks.specs.Pointers.{pointers_of}
use Rattle.tree_blocks.specs.declared.tree.Tree.{Tree}
use Rattle.space.proofs.FreeLists.{length-rising}
use Rattle.sync.specs.Made.{BlocksWritten}
use Rattle.tree_plans.specs.Changes.{AreBornBefore}
use Rattle.tree_plans.specs.Marks.{pending_ops}
use Rattle.tree_plans.specs.Plans.{address_of, new_block}
use Rattle.tree_plans.specs.declared.planner.PlannedBlock.{PlannedBlock}
use Rattle.tree_plans.specs.declared.planner.TreePlan.{TreePlan}
use Rattle.import_replay.specs.PlacedRecords.{ops_of_placed, placed_estimate}
use Rattle.import_replay.specs.FreeBlocks.{AreAllOthers, AreAllPlanned}
use Rattle.import_replay.specs.ImportRefusals.{HasLastNumbers, IsReason, LacksImportRoom}
use Rattle.import_replay.specs.ImportStops.{writes_of_next}
use Rattle.import_replay.specs.LabelSyncs.{AreApartIn, IsGroupSynced}
use Rattle.import_replay.specs.Mounts.{IsImport, IsMountedFrom}
use Rattle.import_replay.specs.NextPools.{AreMadeOver, ArePartsFor, AreWithinLimits, IsPlannedPool, IsReadyFor, IsReplayedPool, LacksBlocks, LacksTreeBlocks, PoolParts, next_frame, objects_replayed, pool_parts, synced_with}
use Rattle.import_replay.specs.ReadPools.{IsLoadedFor, IsReadPool, frame_of_size}
use Rattle.import_replay.specs.TakenBlocks.{AreForEachPlace, AreLowestSpare, replayed_places}
use Rattle.mounted.specs.declared.mounted.Mounted.{Mounted}
use Rattle.import_replay.specs.declared.next_pool.NextPool.{NextPool}
use Rattle.import_replay.specs.declared.next_pool.ReplayedPool.{ReplayedPool}
use Rattle.import_replay.proofs.FreeBlocks.{at_planned, planned_at}
use Rattle.import_replay.proofs.MountedPools.{found_read, import_of, mounts_read, named-of_tree, not_zero, stands_on, used_on_image}
use Rattle.import_replay.proofs.LeftBlocks.{all_others_left}
use Rattle.import_replay.proofs.KeptBlocks.{no_log_written, used_kept}
use Rattle.import_replay.proofs.PlannedPools.{planned_over, pointers_made}
use Rattle.import_replay.proofs.Reasons.{reason-record}
use Rattle.import_replay.proofs.ReplayedPools as replays
use Rattle.import_replay.proofs.WrittenPlaces.{each_place, map_same}

-- no version that is known is above the one that is written
newest-known : (version : ℕ) → is_version_known version ≡ true → version ≤ written_version
newest-known version known = elim (or_cases (nat_eq version 1) (nat_eq version 2) known) as (λ _. version ≤ written_version) [
  | inl one ↦ (let is = eqb-true version 1 one in omega (arith, is))
  | inr two ↦ (let is = eqb-true version 2 two in omega (arith, is))
]

-- blocks at different addresses have different indices
pub differ_all : (b : PlannedBlock) (bs : List PlannedBlock) → ((i : ℕ) (c : PlannedBlock) → slice_get bs i ≡ Some c → b.index ≢ c.index)
    → AllByRecursion (λ y. nat_eq b.index y ≡ false) (map (λ (c : PlannedBlock). c.index) bs)
differ_all b [] differ = tt
differ_all b (c ∷ bs) differ = (ne_eqb b.index c.index (differ zero c refl), differ_all b bs (λ i d at. differ (suc i) d at))

distinct_blocks : (bs : List PlannedBlock) → ((i j : ℕ) (b c : PlannedBlock) → slice_get bs i ≡ Some b → slice_get bs j ≡ Some c → b.index ≡ c.index → i ≡ j)
    → IsDistinct nat_eq (map (λ (b : PlannedBlock). b.index) bs)
unfolding IsDistinct
distinct_blocks [] apart = tt
distinct_blocks (b ∷ bs) apart = (
  differ_all b bs (λ i c at same. let e = apart zero (suc i) b c refl at same in omega (arith, e)),
  distinct_blocks bs (λ i j c d at_i at_j same. let e = apart (suc i) (suc j) c d at_i at_j same in omega (arith, e)),
)

-- an element of a list is in the set with its elements, which has no more than the list
at-with_all : (xs : List ℕ) (q : ℕ) → IsAt xs q → set.contains (with_all xs set.empty) q ≡ true
at-with_all [] q (i, at) = absurd (let no_way : None ≡ Some q = at in cc)
at-with_all (x ∷ xs) q (zero, at) =
    let same : x ≡ q = cc in
    contains-insert nat_cmp_total (with_all xs set.empty) x q ∙ or_left (eq_by_cmp nat_cmp q x) (set.contains (with_all xs set.empty) q) (unsigned_tied q x ∙ eq-eqb q x (sym same))
at-with_all (x ∷ xs) q (suc i, at) =
    contains-insert nat_cmp_total (with_all xs set.empty) x q ∙ or_right (eq_by_cmp nat_cmp q x) (set.contains (with_all xs set.empty) q) (at-with_all xs q (i, at))

with_all-short : (xs : List ℕ) → set.len (with_all xs set.empty) ≤ length xs
with_all-short [] = omega (arith, len-empty nat_cmp)
with_all-short (x ∷ xs) = by_flag (set.contains (with_all xs set.empty) x) (len-insert nat_cmp_total (with_all xs set.empty) x) (with_all-short xs)
  where
    by_flag : (b : Bool) → set.len (with_all (x ∷ xs) set.empty) ≡ cond b (set.len (with_all xs set.empty)) (set.len (with_all xs set.empty) + 1) → set.len (with_all xs set.empty) ≤ length xs
        → set.len (with_all (x ∷ xs) set.empty) ≤ suc (length xs)
    by_flag true step rest = omega (arith, step, rest)
    by_flag false step rest = omega (arith, step, rest)

-- the records of a chain that was loaded are within their limits
pub chain_allowed : (size : ℕ) (chain : List LogPiece) → All (IsSoundPiece (block_count size)) chain → IsChainAllowed chain
chain_allowed size chain sound = All-weaker (IsSoundPiece (block_count size)) IsPieceAllowed (λ b is. is.allowed) chain sound

-- and the pointers of the tree that was loaded are placed
pub loaded_placed : (size : ℕ) (u : Uberblock) (name : List ℕ) (tree : Tree) (chain : List LogPiece) (pool : ReplayedPool) → IsLoadedFor u (block_count size) tree chain
    → IsReplayedPool size u.group name tree chain pool → ∥ ArePlaced (block_count size) (pointers_of pool.synced.tree) ∥₁
loaded_placed size u name tree chain pool loaded r = ∣ subst (λ (t : Tree). ArePlaced (block_count size) (pointers_of t)) (sym r.tree_is) loaded.placed ∣₁

-- if a record is refused, the chain is damaged
pub reason_of_replay : (image : List ℕ) (size : ℕ) (u : Uberblock) (name : List ℕ) (tree : Tree) (chain : List LogPiece) → IsReadPool image size u name tree chain → (e : PoolError)
    → IsReplayCause e → IsReplayRefusal (records_above u.group chain) (synced_with name tree) e → IsReason image e
reason_of_replay image size u name tree chain read e cause refused = reason-record image e cause (λ address is. by_refusal address is refused)
  where
    by_refusal : (address : ℕ) → e ≡ Damaged 6 address → IsReplayRefusal (records_above u.group chain) (synced_with name tree) e → IsChainDamaged image address
    by_refusal address is (inl memory) = absurd (let no_way : Damaged 6 address ≡ NoMemory = sym is ∙ memory in cc)
    by_refusal address is (inr (there, same, r)) =
        let both : Damaged 6 there ≡ Damaged 6 address = sym same ∙ is in
        let place : there ≡ address = cc in
        record {
          u = u;
          synced = synced_with name tree;
          chain = chain;
          found = record {
            pool = read.pool;
            tree = subst (λ (n : ℕ). IsTree image (frame_of_size u n) u.root (objects_of tree)) (sym read.long)
                (subst (λ (p : Pointer). IsTree image (frame_of_size u size) p (objects_of tree)) read.root (holds-tree image (frame_of_size u size) (pointers_of tree) (objects_of tree) read.held));
            chain_is = read.chain_is;
          };
          before = r.before;
          refused = r.refused;
          after = r.after;
          split = r.split;
          reached = r.reached;
          reaches = r.reaches;
          error = r.error;
          refuses = r.refuses;
          address_is = r.address_is ∙ place;
        }

-- while nothing is written, the device holds the tree that was loaded
pub loaded_held : (size : ℕ) (u : Uberblock) (name : List ℕ) (tree : Tree) (chain : List LogPiece) (pool : ReplayedPool) → IsReplayedPool size u.group name tree chain pool
    → (mid before : Disk) → before ≡ mid → IsReadPool (bytes_of mid.now) size u name tree chain → HoldsOwn (bytes_of before.now) (frame_of_size u size) pool.synced.tree
loaded_held size u name tree chain pool r mid before same read =
    subst (λ (d : Disk). HoldsOwn (bytes_of d.now) (frame_of_size u size) pool.synced.tree) (sym same)
    (subst (λ (t : Tree). HoldsOwn (bytes_of mid.now) (frame_of_size u size) t) (sym r.tree_is) read.held)

-- what was found, loaded, replayed and planned; where this holds, the plan holds the objects
pub record IsPrepared (holds : Type 0) (size : ℕ) (u : Uberblock) (name : List ℕ) (tree : Tree) (chain : List LogPiece) (pool : ReplayedPool) (next : NextPool) : Type 0 where
  pub named : IsName name
  pub loaded : IsLoadedFor u (block_count size) tree chain
  pub replayed : IsReplayedPool size u.group name tree chain pool
  pub planned : IsPlannedPool holds size u pool next

-- A pool whose records were replayed, over an image that was read.
module _ (size : ℕ) (u : Uberblock) (name : List ℕ) (tree : Tree) (chain : List LogPiece) (pool : ReplayedPool) (named : IsName name) (loaded : IsLoadedFor u (block_count size) tree chain)
    (r : IsReplayedPool size u.group name tree chain pool) (image : List ℕ) (read : IsReadPool image size u name tree chain) where
  mine_read : IsReadPool image size u name pool.synced.tree chain
  mine_read = subst (λ (t : Tree). IsReadPool image size u name t chain) (sym r.tree_is) read

  -- a spare block is not used, and a block that is not used is spare
  spare-unused : (address : ℕ) → set.contains pool.spare.free address ≡ true → IsUsed image u.root chain address → ⊥
  spare-unused address spare (inl is) =
      r.spare.unused address spare (inl (named-of_tree image (frame_of_size u size) (pointers_of pool.synced.tree) (objects_of pool.synced.tree) mine_read.held address
      (subst (λ (p : Pointer). IsInTree image p address) (sym mine_read.root) is)))
  spare-unused address spare (inr is) = r.spare.unused address spare (inr is)

  spare-or_used : (address : ℕ) → IsBlockAddress (block_count size) address → (set.contains pool.spare.free address ≡ true) ⊎ IsUsed image u.root chain address
  spare-or_used address is = by_flag (set.contains pool.spare.free address) refl
    where
      by_flag : (b : Bool) → set.contains pool.spare.free address ≡ b → (set.contains pool.spare.free address ≡ true) ⊎ IsUsed image u.root chain address
      by_flag true free = inl free
      by_flag false used = inr (used_on_image image size u pool.synced.tree (objects_of pool.synced.tree) chain mine_read.held mine_read.root address is (r.spare.others address used is))

  -- the image mounts what the records leave
  pub replay_mounts : Mounts image u chain (replays.after size u name tree chain pool named loaded r)
  replay_mounts = mounts_read image size u name pool.synced.tree chain mine_read pool.synced r.name_is refl (replays.after size u name tree chain pool named loaded r) r.replayed.applied

  -- so the numbers are those of an image that mounts contents
  pub last_numbers : is_past_last u.group u.import_number ≡ true → HasLastNumbers image
  last_numbers past_last = record { u = u; chain = chain; contents = replays.after size u name tree chain pool named loaded r; mounts = replay_mounts; past_last = past_last }

  -- no more blocks are spare than a plan that takes all of them has
  all_taken : (plan : TreePlan) → AreAllPlanned pool.spare plan.blocks.items → set.len pool.spare.free ≤ length plan.blocks.items
  all_taken plan all =
      let addresses : List ℕ = map address_of plan.blocks.items in
      let within = subset_len pool.spare.free (with_all addresses set.empty) (λ q is.
      let (k, low, at) = r.spare.in_area q is in
      let (i, b, there, same) = planned_at k plan.blocks.items (all k (let count = r.sized in omega (arith, low, count)) (ap (λ (a : ℕ). set.contains pool.spare.free a) (sym at) ∙ is)) in
      at-with_all addresses q (i, map-at address_of plan.blocks.items i b there ∙ ap (λ (a : ℕ). Some a) (same ∙ sym at))) in
      let short = with_all-short addresses in
      let long = length-map plan.blocks.items address_of in
      omega (arith, within, short, long)

  -- the tree's pointers name a block where the image has one
  had_block : AreNamedAs (pointers_of pool.synced.tree) (has_block image u.root)
  had_block place in_range =
      ap (λ (q : Pointer). not (q.address == 0)) (sym (pointers-told image (frame_of_size u size) (pointers_of pool.synced.tree) (objects_of pool.synced.tree) mine_read.held place in_range))
      ∙ ap (λ (q : Pointer). has_block image q place) mine_read.root

  -- what the records leave, and the places that they write
  abbrev left_by : Contents
  left_by = replays.after size u name tree chain pool named loaded r

  abbrev pending : List Op
  pending = pending_ops (u.group + 4) pool.replayed.records.items

  places-replayed : replayed_places image u chain (contents_of pool.synced) ≡ written_places pending (contents_of pool.synced) (has_block image u.root)
  places-replayed = ap (λ (ops : List Op). written_places ops (contents_of pool.synced) (has_block image u.root)) (replays.ops_replayed size u name tree chain pool named loaded r)

  -- where blocks lack for the tree, no more are spare than these places
  few_spare : LacksTreeBlocks size u pool → set.len pool.spare.free ≤ length (replayed_places image u chain (contents_of pool.synced))
  few_spare (inl short) =
      let fewer = short_of_these (u.group + 4) pool.replayed.records.items pool.synced.tree.entries.items (contents_of pool.synced) left_by (replays.takes_place size u name tree chain pool named loaded r) (replays.sized size u name tree chain pool named loaded r) (pointers_of pool.synced.tree)
      (rising pool.spare.free) short (has_block image u.root) had_block in
      let count = length-rising pool.spare.free in
      let same = ap (λ (l : List Place). length l) places-replayed in
      omega (arith, fewer, count, same)
  few_spare (inr (plan, makes, all)) =
      let places : List Place = written_places pending (contents_of pool.synced) (has_block image u.root) in
      let new : Place → Pointer = plan_pointers pool.synced.tree plan in
      let bs : List NewBlock = map new_block plan.blocks.items in
      let each = takes_at_places (u.group + 4) pool.replayed.records.items pool.synced.tree.entries.items (contents_of pool.synced) left_by (replays.takes_place size u name tree chain pool named loaded r) (replays.sized size u name tree chain pool named loaded r) (pointers_of pool.synced.tree)
      new bs plan.freed.items makes.made.places (has_block image u.root) had_block in
      let many : length places ≡ length plan.blocks.items =
      sym (length-map places (λ (place : Place). (new place).address)) ∙ ap (λ (l : List ℕ). length l) each ∙ length-map bs (λ (b : NewBlock). b.address) ∙ length-map plan.blocks.items new_block in
      let most = all_taken plan all in
      let same = ap (λ (l : List Place). length l) places-replayed in
      omega (arith, many, most, same)

  -- where blocks lack, there is no room
  pub lacks_room : is_past_last u.group u.import_number ≡ false → LacksBlocks size u pool → LacksTreeBlocks size u pool → LacksImportRoom image
  lacks_room within full lacks = record {
    u = u;
    chain = chain;
    contents = left_by;
    mounts = replay_mounts;
    within = within;
    spare = pool.spare.free;
    all = λ address is unused. ⊎_elim (λ spare. spare) (λ used. absurd (unused used)) (spare-or_used address (subst (λ (n : ℕ). IsBlockAddress (block_count n) address) read.long is));
    synced = contents_of pool.synced;
    found = found_read image size u name pool.synced.tree chain mine_read pool.synced r.name_is refl;
    few = few_spare lacks;
    estimated = ⊎_elim
        (λ short.
        let fewer = short_plans_lack_blocks (u.group + 4) pool.synced.tree pool.replayed.records.items short.0 (contents_of pool.synced) (replays.after size u name tree chain pool named loaded r) pool.spare.free short.1 (replays.takes_place size u name tree chain pool named loaded r) (replays.sized size u name tree chain pool named loaded r) in
        let count = length-rising pool.spare.free in
        let same = replays.estimate size u name tree chain pool named loaded r in
        omega (arith, fewer, count, same))
        (λ takes.
        let fits = plans_fit_estimates (next_frame u size) pool.synced.tree pool.replayed.records.items (contents_of pool.synced) (replays.after size u name tree chain pool named loaded r) takes.0 takes.1 (replays.takes_place size u name tree chain pool named loaded r) (replays.sized size u name tree chain pool named loaded r) in
        let all = all_taken takes.0 takes.2 in
        let same = replays.estimate size u name tree chain pool named loaded r in
        omega (arith, fits, all, same)) full;
  }

module _ (holds : Type 0) (size : ℕ) (u : Uberblock) (name : List ℕ) (tree : Tree) (chain : List LogPiece) (pool : ReplayedPool) (next : NextPool) (is : IsPrepared holds size u name tree chain pool next) where
  abbrev plan : TreePlan
  plan = is.planned.plan

  abbrev blocks : List PlannedBlock
  blocks = plan.blocks.items

  abbrev spare : FinSet nat_cmp
  spare = pool.spare.free

  -- the contents that are synced are those that the records leave
  abbrev left : Contents
  left = replays.after size u name tree chain pool is.named is.loaded is.replayed

  -- each block was spare, and is taken once
  in_order : (i : ℕ) (b : PlannedBlock) → slice_get blocks i ≡ Some b → slice_get (rising spare) i ≡ Some (block_address b.index)
  in_order i b at = at_take (length blocks) (rising spare) i (block_address b.index) (ap (λ (l : List ℕ). slice_get l i) (sym is.planned.taken) ∙ map-at address_of blocks i b at)

  was_spare : (i : ℕ) (b : PlannedBlock) → slice_get blocks i ≡ Some b → set.contains spare (block_address b.index) ≡ true
  was_spare i b at = rising-in spare i (block_address b.index) (in_order i b at)

  one_place : (i j : ℕ) (b c : PlannedBlock) → slice_get blocks i ≡ Some b → slice_get blocks j ≡ Some c → block_address b.index ≡ block_address c.index → i ≡ j
  one_place i j b c at_i at_j same = elim (cases_lt i j) as (λ _. i ≡ j) [
    | inl before ↦ absurd (let less = rising-rises spare i j (block_address b.index) (block_address c.index) before (in_order i b at_i) (in_order j c at_j) in omega (arith, less, same))
    | inr from ↦ elim (cases_lt j i) as (λ _. i ≡ j) [
      | inl after ↦ absurd (let less = rising-rises spare j i (block_address c.index) (block_address b.index) after (in_order j c at_j) (in_order i b at_i) in omega (arith, less, same))
      | inr to ↦ omega (arith, from, to)
    ]
  ]

  are_blocks : AreBlocks (block_count size) (map new_block blocks)
  are_blocks = record {
    in_area = λ i n at. let (b, there, same) = at-map new_block blocks i n at in
        subst (λ (x : NewBlock). IsBlockAddress (block_count size) x.address) same (is.replayed.spare.in_area (block_address b.index) (was_spare i b there));
    whole = λ i n at. is.planned.made.1.whole i n at;
    apart = λ i j n m at_i at_j same.
        let (b, there_i, same_i) = at-map new_block blocks i n at_i in
        let (c, there_j, same_j) = at-map new_block blocks j m at_j in
        one_place i j b c there_i there_j (ap (λ (x : NewBlock). x.address) same_i ∙ same ∙ ap (λ (x : NewBlock). x.address) (sym same_j));
  }

  log_spare : set.contains spare next.log_address ≡ true
  log_spare = ap (λ (a : ℕ). set.contains spare a) is.planned.log_is ∙ is.planned.lowest.free

  log_placed : IsBlockAddress (block_count size) next.log_address
  log_placed = is.replayed.spare.in_area next.log_address log_spare

  -- it is ready to be synced
  pub prepared_ready : IsReadyFor size next
  prepared_ready = record {
    apart = subst (λ (bs : List PlannedBlock). AreApartIn size bs) (sym is.planned.blocks_are) (record {
      in_area = is.planned.fits.within;
      distinct = distinct_blocks blocks (λ i j b c at_i at_j same. one_place i j b c at_i at_j (ap block_address same));
    });
    placed = ∥∥₁_map {A = ArePlaced (block_count size) (plan_pointers pool.synced.tree plan)} {B = ArePlaced (block_count size) (pointers_of next.contents.tree)} is.planned.made.1.placed
        (λ placed place in_range. subst (IsPlaced (block_count size)) (sym (is.planned.pointers place in_range)) (placed place in_range));
    log_placed = log_placed;
    sized = is.planned.sized;
    idle = is.planned.idle;
  }

  contents_left : contents_of next.contents ≡ left
  contents_left = is.planned.contents_are

  -- its contents are within the limits of a pool
  pub prepared_within : AreWithinLimits (pool_parts next)
  prepared_within = record {
    named = subst (λ (c : Contents). IsName c.name) (sym contents_left) (replays.bounded size u name tree chain pool is.named is.loaded is.replayed).name;
    bounded = subst (λ (c : Contents). (n : ℕ) → IfSome (finite.get c.objects n) (IsLimitedObject n)) (sym contents_left) (replays.bounded size u name tree chain pool is.named is.loaded is.replayed).objects;
  }

  -- so many records were replayed
  records_counted : next.records ≡ length (records_above u.group chain)
  records_counted = is.planned.records_are ∙ replays.count size u name tree chain pool is.named is.loaded is.replayed

  module _ (image : List ℕ) (read : IsReadPool image size u name tree chain) (held : holds) where
    mine : IsReadPool image size u name pool.synced.tree chain
    mine = mine_read size u name tree chain pool is.named is.loaded is.replayed image read

    newest : u.version ≤ written_version
    newest = newest-known u.version read.pool.active.stands.version_known

    room : block_area + block_size * block_count size ≤ length image
    room =
        let large = (IsGeometry-IsSize (length image) read.pool.geometry).least in
        let long : length image ≡ size = read.long in
        omega (arith, large, long)

    planned : IsTreePlan (map new_block blocks) (next_frame u size) (pointers_of pool.synced.tree) (plan_pointers pool.synced.tree plan) (contents_of pool.synced).objects left.objects
    planned = plans_make_trees (next_frame u size) (frame_of_size u size) pool.synced.tree pool.replayed.records.items (contents_of pool.synced) left plan (is.planned.objects held)
        (replays.takes_place size u name tree chain pool is.named is.loaded is.replayed) (replays.sized size u name tree chain pool is.named is.loaded is.replayed) image mine.held

    -- the plan is one from the pointers of the tree
    from_tree : MakesGroupTree (next_frame u size) (pointers_of pool.synced.tree) pool.synced.tree pool.replayed.records.items (objects_replayed pool) plan
    from_tree = (is.planned.objects held).made

    -- each of its blocks is used
    blocks_used : AreUsed (map new_block blocks) (plan_pointers pool.synced.tree plan)
    blocks_used = from_tree.places.used

    -- its blocks lie at the lowest spare addresses
    prepared_lowest : AreLowestSpare image u chain (map address_of blocks)
    prepared_lowest = record {
      spare = spare;
      each = λ address. (
        (λ free. (
          subst (λ (n : ℕ). IsBlockAddress (block_count n) address) (sym read.long) (is.replayed.spare.in_area address free),
          spare-unused size u name tree chain pool is.named is.loaded is.replayed image read address free,
        )),
        λ is_spare. ⊎_elim (λ free. free) (λ used. absurd (is_spare.1 used))
            (spare-or_used size u name tree chain pool is.named is.loaded is.replayed image read address (subst (λ (n : ℕ). IsBlockAddress (block_count n) address) read.long is_spare.0)),
      );
      lowest = is.planned.taken ∙ ap (λ (n : ℕ). take n (rising spare)) (sym (length-map blocks address_of));
    }

    -- at the places that the records write
    prepared_each : AreForEachPlace image u chain (pointers_of next.contents.tree) (map address_of blocks)
    prepared_each = record {
      synced = contents_of pool.synced;
      found = found_read image size u name pool.synced.tree chain mine pool.synced is.replayed.name_is refl;
      each =
          map_same (λ (place : Place). (pointers_of next.contents.tree place).address) (λ (place : Place). (plan_pointers pool.synced.tree plan place).address) places
          (λ i place at. ap (λ (q : Pointer). q.address) (is.planned.pointers place (each_place (group_changes (ops_of_placed (records_above u.group chain)) (contents_of pool.synced) (has_block image u.root)) i place at)))
          ∙ ap (λ (ops : List Op). map (λ (place : Place). (plan_pointers pool.synced.tree plan place).address) (written_places ops (contents_of pool.synced) (has_block image u.root)))
          (replays.ops_replayed size u name tree chain pool is.named is.loaded is.replayed)
          ∙ takes_at_places (u.group + 4) pool.replayed.records.items pool.synced.tree.entries.items (contents_of pool.synced) left (replays.takes_place size u name tree chain pool is.named is.loaded is.replayed) (replays.sized size u name tree chain pool is.named is.loaded is.replayed) (pointers_of pool.synced.tree)
          (plan_pointers pool.synced.tree plan) (map new_block blocks) plan.freed.items from_tree.places (has_block image u.root)
          (had_block size u name tree chain pool is.named is.loaded is.replayed image read)
          ∙ addresses_are blocks;
    }
      where
        places : List Place
        places = replayed_places image u chain (contents_of pool.synced)

    all_unused : (i : ℕ) (b : PlannedBlock) → slice_get blocks i ≡ Some b → IsUsed image u.root chain (block_address b.index) → ⊥
    all_unused i b at = spare-unused size u name tree chain pool is.named is.loaded is.replayed image read (block_address b.index) (was_spare i b at)

    planned_contents : IsTreePlan (map new_block blocks) (next_frame u size) (pointers_of pool.synced.tree) (plan_pointers pool.synced.tree plan) (contents_of pool.synced).objects (contents_of next.contents).objects
    planned_contents =
        subst (λ (c : Contents). IsTreePlan (map new_block blocks) (next_frame u size) (pointers_of pool.synced.tree) (plan_pointers pool.synced.tree plan) (contents_of pool.synced).objects c.objects) (sym contents_left) planned

    no_others : (n : ℕ) → object_count ≤ n → finite.get (contents_of next.contents).objects n ≡ None
    no_others = subst (λ (c : Contents). (n : ℕ) → object_count ≤ n → finite.get c.objects n ≡ None) (sym contents_left)
        (bounded-no_others left (replays.bounded size u name tree chain pool is.named is.loaded is.replayed))

    -- each block of the old tree was born before the group
    born : AreBornBefore (u.group + 4) (pointers_of pool.synced.tree)
    born place in_range = elim (none_or_opens image (frame_of_size u size) (pointers_of pool.synced.tree) (objects_of pool.synced.tree) mine.held place in_range) as (λ _. (pointers_of pool.synced.tree place).birth < u.group + 4) [
      | inl none ↦ (let zero_is : (pointers_of pool.synced.tree place).birth ≡ 0 = ap (λ (q : Pointer). q.birth) none in omega (arith, zero_is))
      | inr o ↦ (let before = o.1.born in omega (arith, before))
    ]

    -- what comes back is what the plan replaces
    replaced : AreFreed (pointers_of pool.synced.tree) (plan_pointers pool.synced.tree plan) plan.freed.items
    replaced = from_tree.places.freed born

    -- just the blocks are free that neither the new tree nor the log has
    free_left : AreAllOthers (pointers_of next.contents.tree) (block_count size) next.log_address next.free.free
    free_left = subst (λ (a : ℕ). AreAllOthers (pointers_of next.contents.tree) (block_count size) a next.free.free) (sym is.planned.log_is)
        (all_others_left pool.synced.tree (block_count size) pool.free next.free plan is.planned.log_block is.replayed.free is.planned.free is.planned.fits.freed (pointers_of next.contents.tree)
        (pointers_made image size u chain blocks are_blocks all_unused (pointers_of pool.synced.tree) (contents_of pool.synced).objects mine.root mine.held newest (pool_parts next) (plan_pointers pool.synced.tree plan) is.planned.pointers planned_contents
        no_others blocks_used room plan.freed.items replaced))

    -- so its parts are those of a pool
    pub prepared_parts : ArePartsFor size (pool_parts next)
    prepared_parts = record { within = prepared_within; log_block = log_placed; free = free_left }

    -- it is made over the image
    pub prepared_over : AreMadeOver image u chain size next.blocks.items (pool_parts next)
    prepared_over =
        subst (λ (bs : List PlannedBlock). AreMadeOver image u chain size bs (pool_parts next)) (sym is.planned.blocks_are)
        (planned_over image size u chain blocks are_blocks all_unused
        (pointers_of pool.synced.tree) (contents_of pool.synced).objects mine.root mine.held newest (pool_parts next) (plan_pointers pool.synced.tree plan) is.planned.pointers planned_contents no_others
        blocks_used room few prepared_lowest prepared_each records_counted (not_zero (block_count size) next.log_address log_placed)
        (spare-unused size u name tree chain pool is.named is.loaded is.replayed image read next.log_address log_spare) log_left lowest)
      where
        few : length blocks ≤ placed_estimate (records_above u.group chain)
        few =
            let fits = plans_fit_estimates (next_frame u size) pool.synced.tree pool.replayed.records.items (contents_of pool.synced) left plan is.planned.made (replays.takes_place size u name tree chain pool is.named is.loaded is.replayed) (replays.sized size u name tree chain pool is.named is.loaded is.replayed) in
            let same = replays.estimate size u name tree chain pool is.named is.loaded is.replayed in
            omega (arith, fits, same)

        log_left : IsNewAddress (map new_block blocks) next.log_address → ⊥
        log_left (i, n, at, same) =
            let (b, there, is_b) = at-map new_block blocks i n at in
            false≢true (sym is.planned.lowest.left ∙ at_planned is.planned.log_block blocks i b there (ap (λ (x : NewBlock). x.address) is_b ∙ same ∙ is.planned.log_is))

        lowest : (address : ℕ) → address < next.log_address → IsBlockAddress (block_count size) address
            → IsUsed image u.root chain address ⊎ ((i : ℕ) × (b : PlannedBlock) × (slice_get blocks i ≡ Some b) × (block_address b.index ≡ address))
        lowest address below (k, low, at) = ⊎_elim
            (λ spare_there.
            let before : k < is.planned.log_block = (let log : next.log_address ≡ block_address is.planned.log_block = is.planned.log_is in omega (arith, below, at, log)) in
            let p = planned_at k blocks (is.planned.lowest.below k before (ap (λ (a : ℕ). set.contains spare a) (sym at) ∙ spare_there)) in
            inr (p.0, p.1, p.2, p.3 ∙ sym at))
            (λ used. inl used) (spare-or_used size u name tree chain pool is.named is.loaded is.replayed image read address (k, low, at))

    -- and the image mounts its contents
    pub prepared_mounts : Mounts image u chain (contents_of next.contents)
    prepared_mounts = subst (λ (c : Contents). Mounts image u chain c) (sym contents_left) (replay_mounts size u name tree chain pool is.named is.loaded is.replayed image read)

    -- what was mounted is an import of the image
    pub is_import : (dirty_max moment : ℕ) (m : Mounted) → IsMountedFrom size u (pool_parts next) dirty_max m → is_dirty_max_allowed dirty_max ≡ true
        → (even_first : Bool) (before after : Disk) → bytes_of before.now ≡ image → IsGroupSynced (writes_of_next size u moment next) even_first before after → IsImport image (bytes_of after.now) dirty_max m
    is_import dirty_max moment m from limit even_first before after same done = record {
      imported = import_of size u (pool_parts next) dirty_max m from prepared_within prepared_parts image now chain next.blocks.items read.long prepared_over long written limit
          (subst (λ (p : PoolParts). Mounts image u chain (contents_of p.contents)) (sym from.parts) prepared_mounts);
      stands = stands_on size u (pool_parts next) dirty_max m from prepared_within prepared_parts image now chain next.blocks.items read.long prepared_over long written;
      size = long;
      no_log = no_log_written size u name pool.synced.tree (objects_of pool.synced.tree) chain image now next.blocks.items is.loaded.sound mine prepared_over.unused prepared_ready.apart long written;
      kept = used_kept size u name pool.synced.tree (objects_of pool.synced.tree) chain image now next.blocks.items is.loaded.sound mine prepared_over.unused prepared_ready.apart long written;
    }
      where
        now : List ℕ
        now = bytes_of after.now

        long : length now ≡ length image
        long = done.length_is ∙ ap (λ (b : List ℕ). length b) same

        written : BlocksWritten image size next.blocks.items (length next.blocks.items) now
        written = subst (λ (b : List ℕ). BlocksWritten b size next.blocks.items (length next.blocks.items) now) same done.blocks_written
