-- What an import has written, from what it found, mounted and synced.
use Rattle.std.proofs.Common.{◌≡◌, ℕ, Bool, List, length, map, Result, Ok, Err, IfOk, sym, subst, ap, ◌∙◌, arith}
use Rattle.std.specs.Prelude.{OnOk}
use Rattle.base.specs.declared.error.PoolError.{PoolError}
use Rattle.base.specs.disk.Calls.{Flushes}
use Rattle.base.specs.disk.Disk.{Disk, bytes_of}
use Rattle.base.specs.tree.Mount.{IsChainOf}
use Rattle.base.specs.formats.Chain.{LogPiece}
use Rattle.base.specs.formats.Uberblocks.{Uberblock, IsActive}
use Rattle.base.specs.formats.Versions.{written_version}
use Rattle.base.proofs.disk.Regions.{flushed_clean}
use Rattle.base.specs.disk.DiskCalls.{after_disk_calls}
use Rattle.tree_blocks.specs.Pointers.{pointers_of}
use Rattle.sync.specs.Made.{BlocksWritten}
use Rattle.tree_plans.specs.Plans.{address_of}
use Rattle.import_replay.specs.Found.{HasFirstStage}
use Rattle.import_replay.specs.ImportStops.{writes_of_next}
use Rattle.import_replay.specs.ImportSyncs.{IsImportSynced, IsImportWritten, uberblock_of_import, writes_of_import}
use Rattle.import_replay.specs.Labelled.{HasOtherSlots, HoldUberblock}
use Rattle.import_replay.specs.LabelSyncs.{ImportWrites, IsGroupSynced, calls_of_import}
use Rattle.import_replay.specs.Mounts.{IsMountedFrom}
use Rattle.import_replay.specs.NextPools.{AreMadeOver, PoolParts, pool_parts}
use Rattle.import_replay.specs.TakenBlocks.{AreForEachPlace}
use Rattle.mounted.specs.declared.mounted.Mounted.{Mounted}
use Rattle.import_replay.specs.declared.next_pool.NextPool.{NextPool}
use Rattle.import_replay.proofs.ImportedLabels.{active_now}

-- what was mounted is what was written
pub written_same : (size : ℕ) (u : Uberblock) (next : NextPool) (dirty_max moment : ℕ) (m : Mounted) → IsMountedFrom size u (pool_parts next) dirty_max m
    → writes_of_next size u moment next ≡ writes_of_import moment next.blocks.items m
written_same size u next dirty_max moment m from = λ i. record {
  size = (sym from.geometry) i;
  config = record { guid = (sym from.guid) i; group = (sym from.group) i; size = (sym from.geometry) i; name = ((sym from.parts) i).contents.name };
  u = record {
    version = written_version;
    group = (sym from.group) i;
    guid = (sym from.guid) i;
    moment = moment;
    root = ((sym from.parts) i).contents.tree.root;
    import_number = (sym from.import_number) i;
    log_address = ((sym from.parts) i).log_address;
    log_number = 0;
  };
  blocks = next.blocks.items;
}

module _ (size : ℕ) (old mid new : Disk) (u : Uberblock) (name : List ℕ) (chain : List LogPiece) (next : NextPool) (dirty_max moment : ℕ) (even_first : Bool)
    (flushed : Flushes old (Ok tt) mid) (long : length (bytes_of old.now) ≡ size) (same_long : length (bytes_of new.now) ≡ size)
    (is_active : IsActive (bytes_of old.now) u) (first : HasFirstStage (bytes_of old.now) u.guid u.group name even_first) (chain_is : IsChainOf (bytes_of old.now) u chain)
    (over : AreMadeOver (bytes_of old.now) u chain size next.blocks.items (pool_parts next))
    (m : Mounted) (from : IsMountedFrom size u (pool_parts next) dirty_max m)
    (done : IsGroupSynced (writes_of_next size u moment next) even_first mid new) where
  mine : IsGroupSynced (writes_of_import moment next.blocks.items m) even_first mid new
  mine = subst (λ (w : ImportWrites). IsGroupSynced w even_first mid new) (written_same size u next dirty_max moment m from) done

  import_synced : IsImportSynced old new moment m
  import_synced = record {
    u = u;
    active = is_active;
    guid = from.guid;
    group = from.group;
    import_number = from.import_number;
    even_first = even_first;
    name = name;
    first = first;
    chain = chain;
    chain_is = chain_is;
    blocks = next.blocks.items;
    unused = over.unused;
    few = over.few;
    lowest = over.lowest;
    each = subst (λ (q : PoolParts). AreForEachPlace (bytes_of old.now) u chain (pointers_of q.contents.tree) (map address_of next.blocks.items)) (sym from.parts) over.each;
    synced = mine.synced ∙ ap (λ (d : Disk). after_disk_calls (calls_of_import (writes_of_import moment next.blocks.items m) even_first) d) flushed;
    written = subst (λ (b : List ℕ). BlocksWritten b m.geometry next.blocks.items (length next.blocks.items) (bytes_of new.now)) (flushed_clean old mid flushed).1 mine.blocks_written;
  }

  now_active : IsActive (bytes_of new.now) (uberblock_of_import moment m)
  now_active =
      let others : HasOtherSlots size m.group.0 (bytes_of old.now) (bytes_of new.now) =
      subst (λ (n : ℕ). HasOtherSlots n m.group.0 (bytes_of old.now) (bytes_of new.now)) from.geometry
      (subst (λ (l : List ℕ). HasOtherSlots m.geometry m.group.0 l (bytes_of new.now)) (flushed_clean old mid flushed).1 mine.other_slots) in
      active_now size (bytes_of old.now) (bytes_of new.now) u (uberblock_of_import moment m) long same_long is_active (omega (arith, from.group))
      (subst (λ (n : ℕ). HoldUberblock n 4 (uberblock_of_import moment m) (bytes_of new.now)) from.geometry mine.labelled.1) others

  pub import_written : IsImportWritten old new moment m
  import_written = record { synced = import_synced; labelled = mine.labelled; settled = mine.settled; active = now_active }

-- the same of an answer
pub ok_written : (old before mid new : Disk) (size : ℕ) (u : Uberblock) (name : List ℕ) (chain : List LogPiece) (next : NextPool) (dirty_max moment : ℕ) (even_first : Bool) (r : Result Mounted PoolError)
    → before ≡ mid → Flushes old (Ok tt) mid → length (bytes_of old.now) ≡ size → length (bytes_of new.now) ≡ size
    → IsActive (bytes_of old.now) u → HasFirstStage (bytes_of old.now) u.guid u.group name even_first → IsChainOf (bytes_of old.now) u chain
    → AreMadeOver (bytes_of old.now) u chain size next.blocks.items (pool_parts next)
    → IfOk r (IsMountedFrom size u (pool_parts next) dirty_max)
    → OnOk r (IsGroupSynced (writes_of_next size u moment next) even_first before new)
    → IfOk r (IsImportWritten old new moment)
ok_written old before mid new size u name chain next dirty_max moment even_first (Err e) same flushed long same_long active first chain_is over from done = tt
ok_written old before mid new size u name chain next dirty_max moment even_first (Ok m) same flushed long same_long active first chain_is over from done =
    import_written size old mid new u name chain next dirty_max moment even_first flushed long same_long active first chain_is over m from
    (subst (λ (d : Disk). IsGroupSynced (writes_of_next size u moment next) even_first d new) same done)
