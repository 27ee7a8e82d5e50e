-- A flush of the log that is answered keeps a pool's disk, whether a sync runs or not: all log blocks are fixed then.
use Rattle.std.proofs.Common.{◌≡◌, ◌∙◌, ℕ, false, List, [], ◌∷◌, ◌++◌, length, Option, Some, None, Ok, refl, ap, sym, subst}
use Rattle.base.specs.kept.Layout.{header_now}
use Rattle.base.specs.kept.PoolViews.{IsPoolDisk, IsSyncConfig, IsViewOf}
use Rattle.base.specs.kept.Views.{AreConfigsUpTo}
use Rattle.base.specs.disk.Calls.{Flushes}
use Rattle.base.specs.disk.Disk.{Disk, Moment, Write, bytes_of, certain_with, disk_size, handed}
use Rattle.base.specs.disk.Fairness.{HasFairBytes}
use Rattle.base.specs.formats.Geometry.{config_place}
use Rattle.base.specs.history.Past.{Past}
use Rattle.base.specs.steps.Shown.{Shown}
use Rattle.base.specs.steps.Steps.{State, ordinals_awaiting, state_after_log_flush}
use Rattle.base.specs.kept.Stored.{IsKept}
use Rattle.base.proofs.crash.LogHeaders.{header_now-flush}
use Rattle.base.proofs.crash.PoolLogSteps.{log_flush_kept}
use Rattle.base.proofs.crash.PoolLogs.{view_flushed}
use Rattle.base.proofs.disk.FairBytes.{fair_bytes_settled}
use Rattle.base.proofs.disk.Fairness.{handed_settled}
use Rattle.base.proofs.disk.Moments.{each_flush, latest, starts}
use Rattle.base.proofs.stored.StoredLogs.{log_flush_keeps}
use Rattle.sync.specs.Phases.{HoldsLogs, IsUnderWay, SyncViews, all_flushed}
use Rattle.sync.specs.declared.run.SyncRun.{SyncRun}
use Rattle.sync.proofs.LogFlushes.{log_flushed}
use Rattle.pool_core.specs.KeptSafe.{IsDiskKept, IsKeptSafe, IsSyncOnDisk, OnDisk}
use Rattle.pool_core.proofs.crash.HeldLogs.{held_as}
use Rattle.pool_core.proofs.crash.OwnMoments.{held_of}
use Rattle.pool_core.proofs.crash.SafeMoments.{odd_settled}
use Rattle.pool_core.proofs.crash.ViewsKept.{stages_as, sync_configs_as}
use Rattle.import_replay.proofs.ReadPools.{same_flushed}

-- and nothing is unflushed then
all_settled : (before after : Disk) → Flushes before (Ok tt) after → after.now.unflushed ≡ []
all_settled before after flushed = ap (λ (d : Disk). d.now.unflushed) flushed ∙ go before.now.unflushed refl
  where
    go : (ws : List Write) → before.now.unflushed ≡ ws → (certain_with (bytes_of before.now) before ws).now.unflushed ≡ []
    go [] none = none
    go (w ∷ ws) some = refl

module _ (x : OnDisk) (safe : IsKeptSafe x) (after : Disk) (flushed : Flushes x.disk (Ok tt) after) (running : x.held.state.shown.suspended ≡ false) where
  abbrev s : Shown
  s = x.held.state.shown

  abbrev p : Past
  p = x.held.state.past

  abbrev now : List ℕ
  now = bytes_of x.disk.now

  abbrev more : List ℕ
  more = p.acknowledged ++ ordinals_awaiting s.log

  -- the state then
  abbrev pub u : State
  u = state_after_log_flush x.held.state

  kept : IsKept now s x.held.pointers x.held.running p
  kept = subst (λ (bytes : List ℕ). IsKept bytes s x.held.pointers x.held.running p) safe.same_bytes safe.held.kept

  pub kept_then : IsKept (bytes_of after.now) u.shown x.held.pointers x.held.running u.past
  kept_then = subst (λ (bytes : List ℕ). IsKept bytes u.shown x.held.pointers x.held.running u.past) (sym (same_flushed x.disk after flushed)) (log_flush_keeps now x.held.state x.held.pointers x.held.running kept)

  -- at rest
  idle_flushed : IsPoolDisk (length now) x.disk.now s p → IsPoolDisk (disk_size after) after.now u.shown u.past
  idle_flushed pool =
      let then : IsPoolDisk (length now) after.now u.shown u.past = (log_flush_kept (length now) kept.geometry s p more running x.disk after refl pool flushed).1 in
      subst (λ (n : ℕ). IsPoolDisk n after.now u.shown u.past) (sym then.bytes.size_is) then

  -- While a sync runs.
  module _ (run : SyncRun) (y : IsSyncOnDisk run x.disk s p) where
    abbrev all : SyncViews
    all = all_flushed y.views

    way : IsUnderWay y.base all run after.now × HoldsLogs run all false after.now
    way = log_flushed y.base x.disk after y.views run (held_of y running) flushed y.way

    abbrev Plain : Moment → Type 0
    Plain m = HasFairBytes run.geometry p.created m × AreConfigsUpTo run.geometry p.created (handed m) s.guid s.line.synced (IsSyncConfig run.geometry s p)

    plain : Plain after.now
    plain = latest Plain x.disk after (each_flush Plain x.disk x.disk after (Ok tt) (starts Plain x.disk (y.bytes, y.configs)) flushed (λ was. (
      fair_bytes_settled run.geometry run.sized p.created x.disk.now was.0,
      λ label group name c below some is. was.1 label group name c below (handed_settled p.created now x.disk.now (config_place run.geometry label) c some) is,
    )))

    old_is : IsViewOf all.flushed all.old u.shown u.past s.line.synced s.root (header_now u.shown.log)
    old_is = view_flushed run.geometry s p more running y.views.flushed y.views.old s.line.synced s.root (header_now s.log) (header_now u.shown.log) (header_now-flush s.log) y.old_is

    new_is : IsViewOf all.new_flushed all.new u.shown u.past y.group y.plan.root y.plan.header
    new_is = view_flushed run.geometry s p more running y.views.new_flushed y.views.new y.group y.plan.root y.plan.header y.plan.header refl y.new_is

    sync_flushed : IsSyncOnDisk run after u.shown u.past
    sync_flushed = record {
      left = y.left;
      group = y.group;
      stages = stages_as run.stages run.geometry run.geometry s u.shown p u.past y.group refl refl refl refl refl y.stages;
      plan = y.plan;
      syncing = y.syncing;
      running = y.running;
      base = y.base;
      views = all;
      created = y.created;
      odd = y.odd;
      way = way.0;
      old_is = old_is;
      new_is = new_is;
      apart = way.1.apart;
      old_held = held_as run.geometry y.views.created p.created all.flushed false s.suspended after.now all.old (sym y.created) (λ off. refl) way.1.old;
      new_held = held_as run.geometry y.views.created p.created all.new_flushed false s.suspended after.now all.new (sym y.created) (λ off. refl) way.1.new;
      old_room = y.old_room;
      new_room = y.new_room;
      trees = record { old = y.trees.old; new = y.trees.new; blocks = y.trees.blocks };
      bytes = plain.0;
      configs = sync_configs_as (handed after.now) run.geometry run.geometry s u.shown p u.past refl refl refl refl refl refl (λ group syncing. refl) plain.1;
    }

  -- so the disk is kept
  pub disk_flushed : (o : Option SyncRun) → IsDiskKept o x.disk s p → IsDiskKept o after u.shown u.past
  disk_flushed None (idle, pool, odd) = (idle, idle_flushed pool, odd_settled (disk_size after) after.now (all_settled x.disk after flushed))
  disk_flushed (Some run) y = sync_flushed run y
