-- The pool that an import gives, from what it found, loaded and wrote.
use Rattle.std.proofs.Common.{◌≡◌, ◌≢◌, ◌⊎◌, inl, inr, ⊎_elim, ℕ, ◌+◌, ◌≤◌, true, false, List, length, Some, None, Ok, refl, sym, subst, ap, ◌∙◌, arith}
use Rattle.std.specs.Prelude.{nat_lt}
use Rattle.std.specs.Ordering.{nat_cmp}
use Rattle.std.specs.FinMap.{FinMap, get-empty}
use Rattle.std.specs.FinSet as set
use Rattle.std.proofs.lemmas.Bool.{or_parts, ltb-false}
use Rattle.base.specs.declared.pointer.Pointer.{Pointer}
use Rattle.base.specs.formats.Blocks.{Frame}
use Rattle.base.specs.formats.Chain.{LogPiece, chain_addresses}
use Rattle.base.specs.steps.Exact.{AreFree, IsBounded, IsInLog}
use Rattle.base.specs.formats.Geometry.{IsBlockAddress, block_count}
use Rattle.base.specs.kept.Imports.{IsFirstLogBlock, IsImported, IsImportOf, is_dirty_max_allowed, is_past_last}
use Rattle.base.specs.formats.Limits.{last_number}
use Rattle.base.specs.history.Contents.{Contents}
use Rattle.base.specs.formats.Versions.{written_version}
use Rattle.base.specs.tree.Mount.{HasPool, IsFound, IsUsed, Mounts, apply_records, records_above}
use Rattle.base.specs.kept.PlacedTrees.{HoldsTree}
use Rattle.base.specs.tree.Places.{Place, IsInTree}
use Rattle.base.specs.tree.Places.Place.{Root}
use Rattle.base.specs.steps.Shown.{Shown}
use Rattle.base.specs.tree.Tree.{IsTree}
use Rattle.base.specs.formats.Uberblocks.{Uberblock}
use Rattle.base.proofs.steps.KeptTables.{new_pools_are_explained}
use Rattle.base.proofs.steps.ListedLengths.{lengths_stay_listed}
use Rattle.base.proofs.tree.PlacedTrees.{holds-tree, in-tree, told-in_tree}
use Rattle.tree_blocks.specs.declared.tree.Tree.{Tree}
use Rattle.contents.specs.declared.synced_tree.SyncedTree.{SyncedTree}
use Rattle.contents.specs.ContentsShown.{contents_of}
use Rattle.tree_blocks.specs.TreeObjects.{objects_of}
use Rattle.tree_blocks.specs.TreeObjects.{lengths_of}
use Rattle.tree_blocks.specs.Pointers.{pointers_of}
use Rattle.sync.specs.Made.{BlocksWritten}
use Rattle.tree_plans.specs.declared.planner.PlannedBlock.{PlannedBlock}
use Rattle.import_replay.specs.FreeBlocks.{IsNamed, IsUsedBy}
use Rattle.import_replay.specs.ImportRefusals.{CanImport, HasSoundPool}
use Rattle.import_replay.specs.Mounts.{IsMountedAnew, IsMountedFrom, StandsOnDevice, frame_of_import, parts_mounted}
use Rattle.mounted.specs.ShownMounted.{shown_of_import}
use Rattle.import_replay.specs.NextPools.{AreMadeOver, ArePartsFor, AreWithinLimits, PoolParts, next_frame}
use Rattle.import_replay.specs.ReadPools.{IsReadPool, frame_of_size}
use Rattle.mounted.specs.declared.mounted.Mounted.{Mounted}

pub not_zero : (blocks address : ℕ) → IsBlockAddress blocks address → address ≢ 0
not_zero blocks address is none = let e = is.2 in omega (arith, e, none)

-- in an image that holds a tree, the addresses of its blocks are those that its pointers name
module _ (image : List ℕ) (frame : Frame) (pointers : Place → Pointer) (objects : FinMap nat_cmp (List ℕ)) (holds : HoldsTree image frame pointers objects) (address : ℕ) where
  pub named-of_tree : IsInTree image (pointers Root) address → IsNamed pointers address
  named-of_tree is = let t = in-tree image frame pointers objects holds address is in (t.0, t.1, t.2)

  pub tree-of_named : address ≢ 0 → IsNamed pointers address → IsInTree image (pointers Root) address
  tree-of_named some (place, in_range, is) =
      subst (λ (a : ℕ). IsInTree image (pointers Root) a) is
      (told-in_tree image frame pointers objects holds place in_range (λ none. some (sym is ∙ ap (λ (p : Pointer). p.address) none)))

-- what the tree or the chain has is used on the image
pub used_on_image : (image : List ℕ) (size : ℕ) (u : Uberblock) (tree : Tree) (objects : FinMap nat_cmp (List ℕ)) (chain : List LogPiece) → HoldsTree image (frame_of_size u size) (pointers_of tree) objects → tree.root ≡ u.root
    → (address : ℕ) → IsBlockAddress (block_count size) address → IsUsedBy (pointers_of tree) (chain_addresses chain) address → IsUsed image u.root chain address
used_on_image image size u tree objects chain held root address block (inl named) =
    inl (subst (λ (p : Pointer). IsInTree image p address) root (tree-of_named image (frame_of_size u size) (pointers_of tree) objects held address (not_zero (block_count size) address block) named))
used_on_image image size u tree objects chain held root address block (inr logged) = inr logged

-- the tree that was loaded is that of a pool without a damage
pub sound_pool : (size : ℕ) (u : Uberblock) (name : List ℕ) (tree : Tree) (image : List ℕ) → length image ≡ size → HoldsTree image (frame_of_size u size) (pointers_of tree) (objects_of tree)
    → tree.root ≡ u.root → HasPool image u name → HasSoundPool image u name
sound_pool size u name tree image long held root pool = record {
  pool = pool;
  objects = objects_of tree;
  tree = subst (λ (n : ℕ). IsTree image (frame_of_size u n) u.root (objects_of tree)) (sym long)
      (subst (λ (p : Pointer). IsTree image (frame_of_size u size) p (objects_of tree)) root (holds-tree image (frame_of_size u size) (pointers_of tree) (objects_of tree) held));
}

-- that pool is found in the image with its name, its objects and its chain
pub found_read : (image : List ℕ) (size : ℕ) (u : Uberblock) (name : List ℕ) (tree : Tree) (chain : List LogPiece) → IsReadPool image size u name tree chain
    → (c : SyncedTree) → c.name ≡ name → c.tree ≡ tree → IsFound image u (contents_of c) chain
found_read image size u name tree chain read c named same = record {
  pool = subst (λ (n : List ℕ). HasPool image u n) (sym named) read.pool;
  tree = subst (λ (t : Tree). IsTree image (frame_of_size u (length image)) u.root (objects_of t)) (sym same)
      (subst (λ (n : ℕ). IsTree image (frame_of_size u n) u.root (objects_of tree)) (sym read.long)
      (subst (λ (p : Pointer). IsTree image (frame_of_size u size) p (objects_of tree)) read.root (holds-tree image (frame_of_size u size) (pointers_of tree) (objects_of tree) read.held)));
  chain_is = read.chain_is;
}

-- and the image mounts what the records of its chain make of it
pub mounts_read : (image : List ℕ) (size : ℕ) (u : Uberblock) (name : List ℕ) (tree : Tree) (chain : List LogPiece) → IsReadPool image size u name tree chain
    → (c : SyncedTree) → c.name ≡ name → c.tree ≡ tree → (contents : Contents) → apply_records (records_above u.group chain) (contents_of c) ≡ Ok contents → Mounts image u chain contents
mounts_read image size u name tree chain read c named same contents applied =
    record { synced = contents_of c; found = found_read image size u name tree chain read c named same; applied = applied }

-- the numbers of an import that is not past the last
pub group-within : (group import_number : ℕ) → is_past_last group import_number ≡ false → group + 5 ≤ last_number
group-within group import_number within = ltb-false last_number (group + 5) (or_parts (nat_lt last_number (group + 5)) (nat_lt last_number (import_number + 1)) within).0

pub import-within : (group import_number : ℕ) → is_past_last group import_number ≡ false → import_number + 1 ≤ last_number
import-within group import_number within = ltb-false last_number (import_number + 1) (or_parts (nat_lt last_number (group + 5)) (nat_lt last_number (import_number + 1)) within).1

module _ (size : ℕ) (u : Uberblock) (p : PoolParts) (dirty_max : ℕ) (m : Mounted) (from : IsMountedFrom size u p dirty_max m) (within : AreWithinLimits p) where
  abbrev shown : Shown
  shown = shown_of_import m

  limited : AreWithinLimits (parts_mounted m)
  limited = subst AreWithinLimits (sym from.parts) within

  is_imported : IsImported u (block_count size) (contents_of m.contents) dirty_max shown
  is_imported = record {
    suspended = refl;
    guid = from.guid;
    blocks_are = ap block_count from.geometry;
    import_number = from.import_number;
    limit = from.limit;
    locks = refl;
    next_lock = refl;
    line = (let open_is : m.group.0 + 1 ≡ u.group + 5 = omega (arith, from.group) in λ i. record { synced = from.group i; syncing = None; middle = None; open_group = open_is i });
    transactions = refl;
    next_tx = refl;
    contents_are = refl;
    next_ordinal = refl;
    dirty = λ g. get-empty {X = ℕ} nat_cmp g;
    reserved = λ g. get-empty {X = ℕ} nat_cmp g;
    unsynced = refl;
    begun = refl;
    pending = refl;
    kept = refl;
    log_number = refl;
    sync = refl;
    synced_are = refl;
    lengths = lengths_stay_listed (contents_of m.contents) (lengths_of m.contents.tree) (λ n low. m.contents.tree.sized n);
  }

  within_last : u.group + 5 ≤ last_number
  within_last = group-within u.group u.import_number from.within

  -- what the import gives on any device: what is shown of it is exact, with the empty past
  pub mounted_anew : CanImport size dirty_max → IsMountedAnew size dirty_max m
  mounted_anew can =
      let bounded : IsBounded (contents_of m.contents) = record { name = limited.named; objects = limited.bounded } in
      record {
        geometry = from.geometry;
        limit = from.limit;
        made = can;
        explained = λ created. new_pools_are_explained u (block_count size) (contents_of m.contents) created dirty_max shown is_imported bounded within_last;
        bounded = bounded;
        group = m.group_fits;
      }

  module _ (parts : ArePartsFor size p) (image now : List ℕ) (chain : List LogPiece) (blocks : List PlannedBlock) (long : length image ≡ size) (over : AreMadeOver image u chain size blocks p) (same_long : length now ≡ length image)
      (written : BlocksWritten image size blocks (length blocks) now) where
    abbrev pointers : Place → Pointer
    pointers = pointers_of m.contents.tree

    abbrev objects : FinMap nat_cmp (List ℕ)
    objects = (contents_of m.contents).objects

    mine : ArePartsFor m.geometry (parts_mounted m)
    mine = subst (λ (n : ℕ). ArePartsFor n (parts_mounted m)) (sym from.geometry) (subst (λ (q : PoolParts). ArePartsFor size q) (sym from.parts) parts)

    made : AreMadeOver image u chain size blocks (parts_mounted m)
    made = subst (λ (q : PoolParts). AreMadeOver image u chain size blocks q) (sym from.parts) over

    -- the tree stands in what the import leaves, for the group that it synced
    holds_now : HoldsTree now (frame_of_import m) pointers objects
    holds_now = subst (λ (f : Frame). HoldsTree now f pointers objects) frames (made.tree now same_long written)
      where
        frames : next_frame u size ≡ frame_of_import m
        frames = λ i. record { version = written_version; guid = (sym from.guid) i; blocks = block_count ((sym from.geometry) i); group = (sym from.group) i }

    in_now : (address : ℕ) → address ≢ 0 → IsNamed pointers address → IsInTree now m.contents.tree.root address
    in_now address = tree-of_named now (frame_of_import m) pointers objects holds_now address

    now_named : (address : ℕ) → IsInTree now m.contents.tree.root address → IsNamed pointers address
    now_named address = named-of_tree now (frame_of_import m) pointers objects holds_now address

    first_log_block : IsFirstLogBlock image u chain now m.contents.tree.root m.log_address
    first_log_block = record {
      in_area = subst (λ (n : ℕ). IsBlockAddress (block_count n) m.log_address) (from.geometry ∙ sym long) mine.log_block;
      not_old = made.log_unused;
      not_new = λ is. made.log_unnamed (now_named m.log_address is);
      lowest = λ other below is.
          (let block : IsBlockAddress (block_count size) other = subst (λ (n : ℕ). IsBlockAddress (block_count n) other) long is in
          ⊎_elim (λ used. inl used) (λ named. inr (in_now other (not_zero (block_count size) other block) named)) (made.log_lowest other below block));
    }

    -- and the free blocks are those in neither the tree nor the log
    are_free : AreFree now shown
    are_free = record {
      in_area = mine.free.in_area;
      not_in_tree = λ address free is. mine.free.unnamed address free (now_named address is);
      not_in_log = λ address free is. not_logged address free is;
      not_taken = λ address free. refl;
      all_others = λ address used block. other address block (mine.free.others address used block);
    }
      where
        not_logged : (address : ℕ) → set.contains shown.free address ≡ true → IsInLog shown.log address → ⊥
        not_logged address free (inl is) = mine.free.not_taken address free is
        not_logged address free (inr is) = let none : None ≡ Some is.1 = is.2 in cc

        other : (address : ℕ) → IsBlockAddress (block_count m.geometry) address → IsNamed pointers address ⊎ (address ≡ m.log_address)
            → IsInTree now m.contents.tree.root address ⊎ (IsInLog shown.log address ⊎ (false ≡ true))
        other address block (inl named) = inl (in_now address (not_zero (block_count m.geometry) address block) named)
        other address block (inr is) = inr (inl (inl is))

    pub stands_on : StandsOnDevice now m
    stands_on = record {
      tree = holds_now;
      log_block = mine.log_block;
      log_apart = λ is. made.log_unnamed (now_named m.log_address is);
      free = are_free;
    }

    -- if the image mounts its contents, the import is one of the image
    pub import_of : is_dirty_max_allowed dirty_max ≡ true → Mounts image u chain (contents_of m.contents) → IsImportOf image now dirty_max m.records shown
    import_of limit mounts = record {
      u = u;
      chain = chain;
      contents = contents_of m.contents;
      mounts = mounts;
      records_are = sym made.records;
      limit_allowed = limit;
      within = from.within;
      log_block = first_log_block;
      imported = subst (λ (n : ℕ). IsImported u (block_count n) (contents_of m.contents) dirty_max shown) (sym long) is_imported;
    }
