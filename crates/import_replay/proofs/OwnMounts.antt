-- An import that mounts a pool keeps a disk that its pool alone wrote, and a run starts from it: from what it found,
-- replayed and planned.
use Rattle.std.proofs.Common.{◌≡◌, ℕ, List, [], Ok, subst}
use Rattle.base.specs.kept.CrashRule.{KeepsOwn}
use Rattle.base.specs.tree.Mount.{Mounts}
use Rattle.base.specs.disk.Calls.{Flushes}
use Rattle.base.specs.disk.Disk.{Disk, bytes_of}
use Rattle.base.specs.formats.Chain.{LogPiece}
use Rattle.base.specs.formats.Uberblocks.{Uberblock}
use Rattle.labels.specs.declared.stage.Stage.{Stage}
use Rattle.contents.specs.ContentsShown.{contents_of}
use Rattle.tree_blocks.specs.declared.tree.Tree.{Tree}
use Rattle.import_replay.specs.Found.{HasFirstStage}
use Rattle.import_replay.specs.ImportStops.{writes_of_next}
use Rattle.import_replay.specs.ImportViews.{EndsBehind, KeepsViews}
use Rattle.import_replay.specs.LabelSyncs.{ImportWrites, is_even}
use Rattle.import_replay.specs.Mounts.{IsMountedFrom}
use Rattle.import_replay.specs.NextPools.{AreMadeOver, ArePartsFor, pool_parts}
use Rattle.import_replay.specs.ReadPools.{IsReadPool}
use Rattle.import_replay.specs.RunStarts.{StartsRun}
use Rattle.mounted.specs.declared.mounted.Mounted.{Mounted}
use Rattle.import_replay.specs.declared.next_pool.NextPool.{NextPool}
use Rattle.import_replay.specs.declared.next_pool.ReplayedPool.{ReplayedPool}
use Rattle.import_replay.proofs.NextPools.{IsPrepared, prepared_mounts, prepared_over, prepared_parts}
use Rattle.import_replay.proofs.OwnImports.{kept_own, starts_run}

-- the sync of the pool began on the disk that was read
module _ (holds : Type 0) (size : ℕ) (u : Uberblock) (name : List ℕ) (first : Stage) (tree : Tree) (chain : List LogPiece) (pool : ReplayedPool) (next : NextPool)
    (is : IsPrepared holds size u name tree chain pool next) (held : holds) (moment : ℕ) (old mid start new : Disk) (flushes : Flushes old (Ok tt) mid)
    (read : IsReadPool (bytes_of mid.now) size u name tree chain) (stage : HasFirstStage (bytes_of mid.now) u.guid u.group name (is_even first))
    (same : start ≡ mid) (views : KeepsViews (writes_of_next size u moment next) first start new) where
  abbrev w : ImportWrites
  w = writes_of_next size u moment next

  abbrev image : List ℕ
  image = bytes_of mid.now

  parts : ArePartsFor size (pool_parts next)
  parts = prepared_parts holds size u name tree chain pool next is image read held

  over : AreMadeOver image u chain size next.blocks.items (pool_parts next)
  over = prepared_over holds size u name tree chain pool next is image read held

  mounts : Mounts image u chain (contents_of next.contents)
  mounts = prepared_mounts holds size u name tree chain pool next is image read held

  kept : KeepsViews w first mid new
  kept = subst (λ (d : Disk). KeepsViews w first d new) same views

  pub own_kept : KeepsOwn old new
  own_kept = kept_own old mid flushes size u name first read.long read.pool stage next moment chain parts over mounts new kept

  pub run_started : (dirty_max : ℕ) (m : Mounted) → IsMountedFrom size u (pool_parts next) dirty_max m → EndsBehind w first start new → new.now.unflushed ≡ [] → StartsRun old dirty_max new m
  run_started dirty_max m from ends settled =
      starts_run old mid flushes size u name first read.long read.pool stage next moment chain parts over mounts new kept dirty_max m from
      (subst (λ (d : Disk). EndsBehind w first d new) same ends) settled
