-- A view has the objects of what the image mounts: the records of the chain, as changes of one group over the synced
-- tree, make of its objects what an import makes of them.
use Rattle.std.proofs.Common.{◌≡◌, ◌≢◌, ℕ, ◌<◌, ◌≤◌, ◌⊎◌, inl, inr, List, [], ◌∷◌, ◌++◌, refl, sym, ap, ◌∙◌, append_assoc, arith}
use Rattle.std.specs.Prelude.{All, IfErr, IsTrue, Result, Ok, Err}
use Rattle.std.specs.Option.{option_map_or}
use Rattle.std.specs.Ordering.{nat_cmp}
use Rattle.std.specs.FinMap as finite
use Rattle.std.specs.FinMap.{FinMap, same_map, nat_cmp-IsAntisymmetric}
use Rattle.std.proofs.lemmas.Bool.{cases_lt}
use Rattle.std.proofs.lemmas.Cmp.{nat_cmp_total}
use Rattle.std.proofs.lemmas.Grind.{flat_map-append}
use Rattle.std.proofs.lemmas.List.{append-nil}
use Rattle.std.proofs.lemmas.List.Elements.{All-head, All-tail}
use Rattle.base.specs.tree.Mount.{MountsTo}
use Rattle.base.specs.declared.error.PoolError.{PoolError}
use Rattle.base.specs.declared.error.PoolError.TheVariants.{Damaged, NoMemory, NoObject, Read}
use Rattle.base.specs.declared.names.ObjectId.{ObjectId}
use Rattle.base.specs.declared.operation.Op.{Op}
use Rattle.base.specs.declared.range.Range.{Range}
use Rattle.base.specs.disk.Disk.{Disk, bytes_of}
use Rattle.base.specs.formats.Chain.{LogPiece}
use Rattle.base.specs.formats.Geometry.{IsGeometry, block_address, block_count}
use Rattle.base.specs.formats.Limits.{object_count}
use Rattle.base.specs.formats.Uberblocks.{Uberblock}
use Rattle.base.specs.history.Contents.{Contents}
use Rattle.base.proofs.crash.OneMount.{mounts_agree}
use Rattle.base.proofs.formats.Geometry.{blocks-end}
use Rattle.device_model.specs.declared.device.SectorDevice.{Ghosts}
use Rattle.unsynced_extents.specs.declared.unsynced.UnsyncedExtents.{UnsyncedExtents}
use Rattle.extents.specs.Patches.{ArePatchesOf, Patches, laid_over, no_patch, patched}
use Rattle.extents.specs.Synced.{patched_contents}
use Rattle.extents.specs.Tables.{name_of, patches_of}
use Rattle.unsynced_extents.specs.Unsynced.{AppliesAt, KeepsOtherPlaces, LeavesChanges, changes_at, extents_at, laid_all}
use Rattle.extents.proofs.LaidObjects.{get-laid_over, get-laid_past, laid_nothing}
use Rattle.extents.proofs.LaidWithin.{patches_sized}
use Rattle.extents.proofs.PatchedObjects.{patched_nothing}
use Rattle.extents.proofs.SamePatches.{changes_added, changes_left}
use Rattle.log_replay.specs.Replays.{ops_of_records}
use Rattle.contents.specs.ContentsShown.{contents_of}
use Rattle.contents.specs.Ops.{AreOpsAllowed}
use Rattle.tree_blocks.specs.Sources.{range_in}
use Rattle.tree_blocks.specs.declared.tree.Tree.{Tree}
use Rattle.object_reads.specs.ShownTrees.{IsRangeRefusal, IsRangeRefusalOnTree, StandsOn, shown_objects}
use Rattle.object_reads.specs.declared.shown_tree.ShownTree.{ShownTree}
use Rattle.records.specs.declared.record.Record.{Record}
use Rattle.import_replay.specs.NextPools.{IsReplayedPool}
use Rattle.import_replay.specs.ReadPools.{IsReadPool, frame_with}
use Rattle.inspections.specs.Views.{AreAdded, AreAllChanges, FitsOn, IsViewOfImage, IsViewRefusal, objects_seen}
use Rattle.import_replay.specs.declared.next_pool.ReplayedPool.{ReplayedPool}
use Rattle.inspections.specs.declared.viewing.View.{View}
use Rattle.import_replay.proofs.MountedPools.{mounts_read}
use Rattle.import_replay.proofs.NextPools.{loaded_held}

-- no changes are those of no operation
pub no_changes : (e : UnsyncedExtents) → ((place n : ℕ) → changes_at e place n ≡ no_patch) → AreAllChanges [] e
no_changes e none = record {
  oldest = λ n below. ap (λ p. patched p below) (none 0 n) ∙ patched_nothing below;
  second = none 1;
  third = none 2;
}

-- what is at another place stays
stays : (old mid new : UnsyncedExtents) (place : ℕ) → extents_at mid place ≡ extents_at old place → extents_at new place ≡ extents_at mid place
    → ((n : ℕ) → changes_at old place n ≡ no_patch) → (n : ℕ) → changes_at new place n ≡ no_patch
stays old mid new place first then_ none n = ap (λ o. option_map_or patches_of o (λ m. no_patch) n) (then_ ∙ first) ∙ none n

-- operations that get their room and are applied are added
pub more_changes : (earlier ops : List Op) (old mid new : UnsyncedExtents) → LeavesChanges old mid → KeepsOtherPlaces 0 old mid → AppliesAt 0 ops mid new → KeepsOtherPlaces 0 mid new
    → AreAllChanges earlier old → AreAllChanges (earlier ++ ops) new
more_changes earlier ops old mid new left others applied others_again are = record {
  oldest = changes_added earlier ops (changes_at mid 0) (changes_at new 0) (patches_sized mid.oldest) (changes_left earlier (changes_at old 0) (changes_at mid 0) are.oldest (left.patches 0)) applied.patches;
  second = stays old mid new 1 (others 1 (λ is. cc)) (others_again 1 (λ is. cc)) are.second;
  third = stays old mid new 2 (others 2 (λ is. cc)) (others_again 2 (λ is. cc)) are.third;
}

-- records before the first, and the next one
pub none_added : (records : List Record) (e : UnsyncedExtents) → All (λ (r : Record). AreOpsAllowed r.ops) records → ((place n : ℕ) → changes_at e place n ≡ no_patch) → AreAdded records records e
none_added records e allowed none = record { done = []; split = refl; allowed = allowed; changes = no_changes e none }

pub next_allowed : (records left : List Record) (r : Record) (e : UnsyncedExtents) → AreAdded records (r ∷ left) e → AreOpsAllowed r.ops
next_allowed records left r e are = All-head (λ (x : Record). AreOpsAllowed x.ops) r left are.allowed

pub next_added : (records left : List Record) (r : Record) (old new : UnsyncedExtents) → AreAdded records (r ∷ left) old
    → ((earlier : List Op) → AreAllChanges earlier old → AreAllChanges (earlier ++ r.ops) new) → AreAdded records left new
next_added records left r old new are step =
    let whole : ops_of_records (are.done ++ r ∷ []) ≡ ops_of_records are.done ++ r.ops =
    flat_map-append (λ (x : Record). x.ops) are.done (r ∷ []) ∙ ap (λ l. ops_of_records are.done ++ l) (append-nil r.ops) in
    record {
      done = are.done ++ r ∷ [];
      split = are.split ∙ sym (append_assoc are.done (r ∷ []) left);
      allowed = All-tail (λ (x : Record). AreOpsAllowed x.ops) r left are.allowed;
      changes = rw whole (step (ops_of_records are.done) are.changes);
    }

pub all_added : (records : List Record) (e : UnsyncedExtents) → AreAdded records [] e → AreAllChanges (ops_of_records records) e
all_added records e are = rw (are.split ∙ append-nil are.done) are.changes

-- patches that make the same of each object
laid_alike : (ops : List Op) (one other : Patches) (below : FinMap nat_cmp (List ℕ)) → ArePatchesOf ops one → ArePatchesOf ops other → laid_over one below ≡ laid_over other below
laid_alike ops one other below are are_too = same_map nat_cmp_total nat_cmp-IsAntisymmetric _ _ (λ n. at n (cases_lt n object_count))
  where
    at : (n : ℕ) → (n < object_count) ⊎ (object_count ≤ n) → finite.get (laid_over one below) n ≡ finite.get (laid_over other below) n
    at n (inl l) = get-laid_over one below n l ∙ are n (finite.get below n) ∙ sym (are_too n (finite.get below n)) ∙ sym (get-laid_over other below n l)
    at n (inr g) = get-laid_past one below n g ∙ sym (get-laid_past other below n g)

-- so the changes of one group, and of no other, make the objects that the patches of these operations make
seen : (ops : List Op) (e : UnsyncedExtents) (patches : Patches) (below : FinMap nat_cmp (List ℕ)) → AreAllChanges ops e → ArePatchesOf ops patches → laid_over patches below ≡ laid_all e below
seen ops e patches below are are_too =
    let first : FinMap nat_cmp (List ℕ) = laid_over (changes_at e 0) below in
    let second : FinMap nat_cmp (List ℕ) = laid_over (changes_at e 1) first in
    laid_alike ops patches (changes_at e 0) below are_too are.oldest
    ∙ sym (laid_nothing (changes_at e 1) first are.second (get-laid_past (changes_at e 0) below))
    ∙ sym (laid_nothing (changes_at e 2) second are.third (get-laid_past (changes_at e 1) first))

module _ (size : ℕ) (u : Uberblock) (name : List ℕ) (tree : Tree) (chain : List LogPiece) (pool : ReplayedPool) (replayed : IsReplayedPool size u.group name tree chain pool) (v : View)
    (framed : v.frame ≡ frame_with u (block_count size)) where
  -- what was read of a disk, with its records as changes
  pub is_view : (disk : Disk) → IsReadPool (bytes_of disk.now) size u name tree chain → v.synced ≡ pool.synced
      → AreAllChanges (ops_of_records pool.replayed.records.items) v.changes → IsViewOfImage (bytes_of disk.now) v
  is_view disk read synced_is are =
      let contents : Contents = patched_contents (patches_of pool.replayed.extents) (name_of pool.replayed.extents) (contents_of pool.synced) in
      let held = loaded_held size u name tree chain pool replayed disk disk refl read in
      record {
        contents = contents;
        mounts = (u, chain, mounts_read (bytes_of disk.now) size u name tree chain read pool.synced replayed.name_is replayed.tree_is contents replayed.replayed.applied);
        objects = rw synced_is (seen (ops_of_records pool.replayed.records.items) v.changes (patches_of pool.replayed.extents) (contents_of pool.synced).objects are replayed.replayed.patches);
        tree = rw (framed, synced_is) held;
      }

-- its blocks lie on the device
pub fits : (size bytes : ℕ) (u : Uberblock) (v : View) → IsGeometry size → bytes ≡ size → v.frame ≡ frame_with u (block_count size) → FitsOn bytes v
fits size bytes u v sized is framed = let end = blocks-end size sized in rw framed (omega (arith, end, is))

-- a read of a view
module _ (v : View) (t : ShownTree) (framed : t.frame ≡ v.frame) (tree : t.tree.now ≡ v.synced.tree) (changes : t.changes.now ≡ v.changes) where
  pub objects_are : shown_objects t ≡ objects_seen v
  objects_are = rw (tree, changes) refl

  pub tree_fits : (size : ℕ) → FitsOn size v → block_address t.frame.blocks ≤ size
  tree_fits size is = rw framed is

  -- it stands on a device that has what the view found
  pub stands : {Dev : Type 0} (D : Ghosts Dev) (device : Dev) → IsTrue D.keeps_model → IsViewOfImage (bytes_of (D.disk device).now) v → StandsOn D device t
  stands D device keeps is = record { keeps = keeps; tree = rw (framed, tree) is.tree }

-- a refusal of a read that passed the tests is none of these
pub not_absent : {A : Type 0} (r : Result A PoolError) (P : Type 0) → IfErr r IsRangeRefusal → IfErr r (λ e. e ≡ NoObject → P)
not_absent (Ok a) P refused = tt
not_absent (Err e) P (inl memory) = λ is. absurd (let no : NoMemory ≡ NoObject = sym memory ∙ is in cc)
not_absent (Err e) P (inr (inl read)) = λ is. absurd (let no : Read ≡ NoObject = sym read ∙ is in cc)
not_absent (Err e) P (inr (inr (kind, address, damaged))) = λ is. absurd (let no : Damaged kind address ≡ NoObject = sym damaged ∙ is in cc)

pub of_range : {A : Type 0} (r : Result A PoolError) (object : ObjectId) (range : Range) → IfErr r IsRangeRefusal → IfErr r (IsViewRefusal object range)
of_range (Ok a) object range refused = tt
of_range (Err e) object range refused = inr (inr refused)

pub no_damage : {A : Type 0} (r : Result A PoolError) → IfErr r IsRangeRefusalOnTree → IfErr r (λ e. (kind address : ℕ) → e ≢ Damaged kind address)
no_damage (Ok a) refused = tt
no_damage (Err e) (inl memory) = λ kind address is. let no : NoMemory ≡ Damaged kind address = sym memory ∙ is in cc
no_damage (Err e) (inr read) = λ kind address is. let no : Read ≡ Damaged kind address = sym read ∙ is in cc

-- what is read of the object that each mount of the image has
pub read_of_mount : (image : List ℕ) (v : View) (object : ObjectId) (range : Range) (bytes : List ℕ) → IsViewOfImage image v → bytes ≡ range_in (objects_seen v) object range
    → (contents : Contents) → MountsTo image contents → bytes ≡ range_in contents.objects object range
read_of_mount image v object range bytes is read contents (u, chain, mounts) =
    let (w, other, found) = is.mounts in
    let (same_u, same_chain, same) = mounts_agree image w u other chain is.contents contents found mounts in
    read ∙ ap (λ o. range_in o object range) (sym is.objects ∙ ap (λ (c : Contents). c.objects) same)
