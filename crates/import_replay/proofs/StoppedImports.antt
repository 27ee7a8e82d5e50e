-- What an import has left whose sync stopped, from what it found, replayed and planned.
use Rattle.std.proofs.Common.{◌≡◌, inr, ℕ, Bool, false, List, Ok, sym, subst, ◌∙◌}
use Rattle.base.specs.declared.error.PoolError.{PoolError}
use Rattle.base.specs.disk.Calls.{Flushes}
use Rattle.base.specs.disk.Disk.{Disk, bytes_of, certain}
use Rattle.base.specs.kept.Imports.{is_past_last}
use Rattle.base.specs.formats.Chain.{LogPiece}
use Rattle.base.specs.formats.Uberblocks.{Uberblock}
use Rattle.base.specs.disk.DiskCalls.{IsStoppedIn}
use Rattle.tree_blocks.specs.declared.tree.Tree.{Tree}
use Rattle.import_replay.specs.Found.{HasFirstStage}
use Rattle.import_replay.specs.ImportStops.{IsImportStopped, next_writes, writes_of_next}
use Rattle.import_replay.specs.LabelSyncs.{ImportWrites, calls_of_import}
use Rattle.import_replay.specs.NextPools.{AreMadeOver, ArePartsFor, pool_parts}
use Rattle.import_replay.specs.ReadPools.{IsReadPool}
use Rattle.import_replay.specs.declared.next_pool.NextPool.{NextPool}
use Rattle.import_replay.specs.declared.next_pool.ReplayedPool.{ReplayedPool}
use Rattle.import_replay.proofs.MountedPools.{sound_pool}
use Rattle.import_replay.proofs.NextPools.{IsPrepared, prepared_mounts, prepared_over, prepared_parts}

pub stopped_import : (holds : Type 0) (size : ℕ) (old mid before new : Disk) (u : Uberblock) (name : List ℕ) (tree : Tree) (chain : List LogPiece) (pool : ReplayedPool) (next : NextPool) (moment : ℕ) (even_first : Bool) (e : PoolError)
    → Flushes old (Ok tt) mid → before ≡ mid → IsReadPool (bytes_of old.now) size u name tree chain → HasFirstStage (bytes_of old.now) u.guid u.group name even_first
    → IsPrepared holds size u name tree chain pool next → holds → is_past_last u.group u.import_number ≡ false
    → IsStoppedIn (calls_of_import (writes_of_next size u moment next) even_first) e before new → IsImportStopped old new moment e
stopped_import holds size old mid before new u name tree chain pool next moment even_first e flushed same read first is held within stopped =
    let parts = prepared_parts holds size u name tree chain pool next is (bytes_of old.now) read held in
    inr (record {
      u = u;
      name = name;
      sound = sound_pool size u name tree (bytes_of old.now) read.long read.held read.root read.pool;
      within = within;
      even_first = even_first;
      first = first;
      chain = chain;
      blocks = next.blocks.items;
      parts = pool_parts next;
      are = subst (λ (n : ℕ). ArePartsFor n (pool_parts next)) (sym read.long) parts;
      made = subst (λ (n : ℕ). AreMadeOver (bytes_of old.now) u chain n next.blocks.items (pool_parts next)) (sym read.long) (prepared_over holds size u name tree chain pool next is (bytes_of old.now) read held);
      mounts = prepared_mounts holds size u name tree chain pool next is (bytes_of old.now) read held;
      stopped = subst (λ (n : ℕ). IsStoppedIn (calls_of_import (writes n) even_first) e (certain (bytes_of old.now) old) new) (sym read.long)
          (subst (λ (d : Disk). IsStoppedIn (calls_of_import (writes size) even_first) e d new) (same ∙ flushed) stopped);
    })
  where
    writes : ℕ → ImportWrites
    writes n = next_writes n u next.contents.name next.contents.tree.root moment next.log_address next.blocks.items
