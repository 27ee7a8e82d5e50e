-- A sync that starts by the plan of its group, or is refused.
use Rattle.std.proofs.Common.{◌≡◌, ◌∙◌, ℕ, true, false, List, [], map, ap, refl}
use Rattle.std.specs.Prelude.{None, Some, Ok, Err, unwrap_or}
use Rattle.std.specs.FinSet as set
use Rattle.base.specs.common.Rising.{rising}
use Rattle.base.specs.declared.error.PoolError.{PoolError}
use Rattle.base.specs.declared.error.PoolError.TheVariants as error
use Rattle.base.specs.declared.names.Group.{Group}
use Rattle.base.specs.formats.Uberblocks.{IsUberblock}
use Rattle.base.specs.history.Past.{Past}
use Rattle.base.specs.steps.Tables.{AreTablesExplained}
use Rattle.base.specs.steps.Shown.{Shown, SyncPlan, uberblock_of}
use Rattle.base.specs.steps.Steps.{TakesForEach}
use Rattle.base.specs.kept.LabelConfigs.{WritesName}
use Rattle.base.specs.kept.Stored.{IsHeld, NewTree}
use Rattle.unsynced_extents.specs.Unsynced.{name_at}
use Rattle.groups.specs.CountedLines.{CountedLine, after_start}
use Rattle.tree_blocks.specs.Pointers.{pointers_of}
use Rattle.space.specs.FreeSets.{FreeSpace}
use Rattle.tree_plans.specs.declared.planner.PlannedBlock.{PlannedBlock}
use Rattle.tree_plans.specs.declared.planner.TreePlan.{TreePlan}
use Rattle.tree_plans.specs.Plans.{address_of, new_block}
use Rattle.group_plans.specs.GroupPlans.{IsHeldRefusal, IsPlanRefusal, TakesLowest, plan_pointers}
use Rattle.pool_tables.specs.declared.pool.PoolTables.{PoolTables}
use Rattle.pool_tables.specs.declared.pool.RunningSync.{RunningSync}
use Rattle.pool_tables.specs.Areas.{after_sync_takes}
use Rattle.pool_tables.specs.GroupPlans.{BeginsPlan, HoldsOldestObjects, HoldsSyncedTree, IsPoolShort, MakesOldestTree, begun_plan}
use Rattle.pool_tables.specs.Told.{ShownPool, config_of, held_with, new_tree_of, pool_told, start_reply}
use Rattle.pool_tables.specs.Lines.{MayNotStart, MayStart}
use Rattle.pool_tables.specs.Shows.{contents_after_oldest, plan_of, pool_shown, synced_of}
use Rattle.pool_tables.specs.SyncStarts.{IsSyncStart}
use Rattle.pool_tables.proofs.HeldReads.{tree_held}
use Rattle.pool_tables.proofs.syncs.StartLeads.{blocks_kept, group_fits, group_lengths, group_named, group_planned, group_steps, group_takes, group_takes_each, never_short, nothing_made, oldest_leads}
use Rattle.pool_tables.proofs.syncs.Starts.{StartsAt, lowest_taken, plan_wants, start_done, start_not_ready, start_suspended, start_wants}
use Rattle.pool_tables.proofs.StillSteps.{still_pool}

-- The start of a sync of a pool, on a device that keeps the disk model or not, whose bytes are these if it does.
module _ (keeps : Type 0) (now : List ℕ) (moment : ℕ) (pool : PoolTables) where
  -- refused, it takes no step, and the bytes, the tree and the running sync stand
  refused_by : (e : PoolError) → ((past : Past) → AreTablesExplained (pool_shown pool) past → StartsAt ⊥ [] moment (Err e) past (pool_shown pool) (pool_shown pool))
      → (keeps → (past : Past) → IsHeld (held_with (pool_told pool now) past) → StartsAt (Unit {0}) now moment (Err e) past (pool_shown pool) (pool_shown pool))
      → IsSyncStart keeps now moment (Err e) (pool_told pool) (pool_told pool)
  refused_by e at held = record {
    step = λ past x. (past, at past x);
    held = λ k past x. (past, held k past x);
    order = λ k past x. tt;
    leads = λ k. still_pool (start_reply (Err e)) e now pool refl;
  }

  pub suspended_refuses_start : pool.suspended ≡ true → IsSyncStart keeps now moment (Err error.Suspended) (pool_told pool) (pool_told pool)
  suspended_refuses_start suspended = refused_by error.Suspended (λ past x. start_suspended ⊥ [] past (pool_shown pool) moment suspended)
      (λ k past x. start_suspended (Unit {0}) now past (pool_shown pool) moment suspended)

  pub unready_refuses_start : pool.suspended ≡ false → MayNotStart pool.groups.line → IsSyncStart keeps now moment (Err error.NotReady) (pool_told pool) (pool_told pool)
  unready_refuses_start stands not_now = refused_by error.NotReady (λ past x. start_not_ready ⊥ [] past (pool_shown pool) moment stands not_now)
      (λ k past x. start_not_ready (Unit {0}) now past (pool_shown pool) moment stands not_now)

  -- a plan that is refused wants memory or a read: its blocks are there
  pub plan_refuses_start : (group : ℕ) (e : PoolError) → pool.suspended ≡ false → MayStart group pool.groups.line → IsPoolShort pool group e → IsPlanRefusal e
      → (keeps → HoldsSyncedTree pool now → IsHeldRefusal e) → IsSyncStart keeps now moment (Err e) (pool_told pool) (pool_told pool)
  plan_refuses_start group e stands may short refused sound = refused_by e
      (λ past x. start_wants ⊥ [] past (pool_shown pool) moment group e stands may.0 may.1 (plan_wants ⊥ e (none_short past x) refused (λ never. absurd never)))
      (λ k past x. start_wants (Unit {0}) now past (pool_shown pool) moment group e stands may.0 may.1 (plan_wants (Unit {0}) e (none_short past x.explained) refused (λ _. sound k (tree_held now past pool x))))
    where
      none_short : (past : Past) → AreTablesExplained (pool_shown pool) past → e ≡ error.NoSpace → ⊥
      none_short past x space = never_short past pool group may x (short space).0 (short space).1

  -- a sync of this group that starts by this plan
  module _ (g : Group) (planned : TreePlan) where
    abbrev plan : SyncPlan
    plan = begun_plan pool g.0 moment planned

    -- what is shown then
    abbrev shown_started : Shown
    shown_started = record (pool_shown pool) { line = record pool.groups.line { syncing = Some g.0; middle = None }; free = set.difference pool.free.free (set.from_list plan.taken); sync = Some plan }

    -- and told, with this line, these free blocks and this sync
    abbrev told_started : CountedLine → FreeSpace → RunningSync → List ℕ → ShownPool
    told_started line free r bytes = record {
      shown = record (pool_shown pool) { line = line.line; free = free.free; sync = Some (plan_of pool.synced.tree (contents_after_oldest pool) r) };
      now = bytes;
      pointers = pointers_of pool.synced.tree;
      running = Some (new_tree_of pool.synced.tree r);
    }

    module _ (stands : pool.suspended ≡ false) (may : MayStart g.0 pool.groups.line) (lowest : TakesLowest pool.free.free planned) (makes : MakesOldestTree pool g.0 planned) where
      starts_at : (model : Type 0) (bytes : List ℕ) (past : Past) (n : Shown) → n ≡ shown_started → AreTablesExplained (pool_shown pool) past
          → (model → TakesForEach bytes (record { shown = pool_shown pool; past = past }) g.0 plan) → StartsAt model bytes moment (Ok g.0) past (pool_shown pool) n
      starts_at model bytes past n is x takes =
          start_done model bytes past (pool_shown pool) moment n g.0 plan x takes stands may.0 may.1 (group_fits past pool g.0 may x planned makes) (oldest_leads past pool g.0 may x).replayed
          (group_lengths past pool g.0 may x planned makes) refl (lowest_taken planned.blocks.items (rising pool.free.free) lowest) (group_steps past pool g.0 may x moment planned) refl is

      -- its blocks are in the order of the places that it writes; it moves no byte, and its tree is that of the plan
      pub plan_starts_sync : (keeps → HoldsSyncedTree pool now → HoldsOldestObjects pool g.0 planned)
          → (line : CountedLine) (free : FreeSpace) (r : RunningSync) (told : List PlannedBlock) → line ≡ after_start g.0 pool.groups → free ≡ after_sync_takes (map address_of told) pool.free → told ≡ r.run.blocks.items
          → BeginsPlan planned r → plan_of pool.synced.tree (contents_after_oldest pool) r ≡ plan → IsUberblock r.run.uberblock (uberblock_of (pool_shown pool) g.0 plan)
          → ((before : List ℕ) → WritesName (config_of r.run.stages) pool.geometry pool.guid g.0 before (unwrap_or (name_at pool.changes 0) before))
          → IsSyncStart keeps now moment (Ok g) (pool_told pool) (told_started line free r)
      plan_starts_sync objects line free r told line_is free_is told_is begins plan_is slot_is writes =
          let blocks = blocks_kept r planned.blocks told begins.blocks told_is in
          let taken : free ≡ after_sync_takes (map address_of planned.blocks.items) pool.free = free_is ∙ ap (λ (l : List PlannedBlock). after_sync_takes (map address_of l) pool.free) blocks in
          let is : (told_started line free r []).shown ≡ shown_started = λ k. record (pool_shown pool) { line = (line_is k).line; free = (taken k).free; sync = Some (plan_is k) } in
          let made = nothing_made pool.synced.tree r planned.root planned.directories planned.entries planned.blocks begins.root begins.directories begins.entries begins.blocks begins.done in
          let running = ap (λ (t : NewTree). Some t) made in
          let shows = ap (λ (q : SyncPlan). Some q) plan_is in
          record {
            step = λ past x. (past, starts_at ⊥ [] past _ is x (λ never. absurd never));
            held = λ k past x. (past, starts_at (Unit {0}) now past _ is x.explained (λ _. group_takes_each now past pool g.0 moment planned may (objects k (tree_held now past pool x)) x));
            order = λ k past x. record {
              synced = synced_of pool;
              replayed = x.explained.trees.synced.replayed;
              tree = _;
              running = running;
              plan = plan;
              plan_is = shows;
              each = group_takes now past pool g.0 moment planned may (objects k (tree_held now past pool x)) x;
            };
            leads = λ k past later. record {
              same = refl;
              pointers = refl;
              tree = plan_pointers pool.synced.tree planned;
              bs = map new_block planned.blocks.items;
              slot = r.run.uberblock;
              stages = config_of r.run.stages;
              plan = plan;
              running = running;
              plan_is = shows;
              slot_is = slot_is;
              planned = λ x. group_planned now past pool g.0 moment planned may (objects k (tree_held now past pool x)) x;
              named = λ x. group_named now past pool g.0 moment planned may (objects k (tree_held now past pool x)) x (config_of r.run.stages) writes;
            };
          }
