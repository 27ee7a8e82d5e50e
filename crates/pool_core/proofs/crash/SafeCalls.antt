-- Each device call of a running sync keeps its pool's disk, and with the last it is at rest on the view of the group
-- that is synced then. The logs of both views stay held.
use Rattle.std.proofs.Common.{◌≡◌, ◌∙◌, ◌⊎◌, inl, inr, ℕ, ◌+◌, ◌<◌, ◌≤◌, ◌&&◌, Bool, true, false, List, Option, Some, None, refl, sym, subst, arith}
use Rattle.std.specs.Prelude.{All, IfSome, if◌then◌else◌, nat_lt, slice_get}
use Rattle.base.specs.kept.LogRoom.{HasImportRoom}
use Rattle.base.specs.kept.LogRule.{IsLogHeld}
use Rattle.base.specs.kept.LogSteps.{IsHeaderIn}
use Rattle.base.specs.kept.Own.{IsAtRest}
use Rattle.base.specs.kept.PoolViews.{IsPoolDisk, IsSyncConfig}
use Rattle.base.specs.kept.Views.{AreConfigsUpTo, view_frame}
use Rattle.base.specs.disk.Disk.{Disk, EachMoment, Moment, disk_size, handed, moments}
use Rattle.base.specs.disk.Fairness.{HandsOnly, HasFairBytes}
use Rattle.base.specs.formats.Geometry.{block_address, block_count, config_place}
use Rattle.base.specs.history.Past.{Past}
use Rattle.base.specs.steps.Tables.{AreTablesExplained}
use Rattle.base.specs.steps.Locks.{is_in}
use Rattle.base.specs.steps.Shown.{Shown, SyncPlan}
use Rattle.base.specs.steps.Steps as steps
use Rattle.base.specs.steps.Steps.{State}
use Rattle.base.specs.kept.PlacedTrees.{HoldsTree}
use Rattle.base.proofs.crash.OwnDisks.{configs_weaker}
use Rattle.base.proofs.crash.PoolLogs.{pool_synced}
use Rattle.base.proofs.disk.Moments.{both, latest, weaker}
use Rattle.tree_plans.specs.declared.planner.PlannedBlock.{PlannedBlock}
use Rattle.sync.specs.declared.run.LabelStages.{LabelStages}
use Rattle.sync.specs.declared.run.SyncRun.{SyncRun}
use Rattle.sync.specs.Calls.{calls_of}
use Rattle.sync.specs.Phases.{HoldsLogs, IsLoggedPhase, IsUnderWay, IsWrittenNext, SyncViews, all_flushed, is_flush, views_after}
use Rattle.sync.specs.Runs.{SameSync, call_count}
use Rattle.sync.proofs.ConfigWrites.{configs_staged}
use Rattle.sync.proofs.RenamedViews.{configs_while}
use Rattle.sync.proofs.UnderWay.{ends_at_rest, holds_logs}
use Rattle.pool_tables.specs.SyncPhases.{TriesNext}
use Rattle.pool_core.specs.KeptSafe.{AreSyncTrees, IsOddSettled, IsSyncOnDisk, LeavesOwn, WritesConfig}
use Rattle.pool_core.proofs.crash.HeldLogs.{held_as}
use Rattle.pool_core.proofs.crash.OwnMoments.{AreViewsOf, HasSyncViews, PhaseOf, held_of, moment_laid, moment_left, views_held, views_of, views_then}
use Rattle.pool_core.proofs.crash.SafeMoments.{IsSafeMoment, moment_safe, odd_settled}
use Rattle.pool_core.proofs.crash.ViewsKept.{SameSyncing, stages_as, sync_configs_as, synced_view, syncing_view}

-- the trees of a sync's views are those of the same sync, with more of their log blocks fixed or not
trees_then : (base : List ℕ) (run next : SyncRun) (v : SyncViews) (taken later : List ℕ) → SameSync run next → later ≡ taken → AreSyncTrees base run v taken → AreSyncTrees base next (views_after run next v) later
trees_then base run next v taken later same same_taken trees = subst (λ (l : List ℕ). AreSyncTrees base next (views_after run next v) l) (sym same_taken) (go (is_flush (slice_get (calls_of run) run.done) && nat_lt run.done next.done))
  where
    old : HoldsTree base (view_frame next.geometry v.old) v.old.pointers v.old.synced.objects
    old = subst (λ (n : ℕ). HoldsTree base (view_frame n v.old) v.old.pointers v.old.synced.objects) (sym same.geometry) trees.old

    blocks : All (λ (b : PlannedBlock). is_in (block_address b.index) taken ≡ true) next.blocks.items
    blocks = rw same.blocks trees.blocks

    go : (b : Bool) → AreSyncTrees base next (if b then all_flushed v else v) taken
    go true = record { old = old; new = trees.new; blocks = blocks }
    go false = record { old = old; new = trees.new; blocks = blocks }

-- and the labels with what is fixed stay
odd_then : (b : Bool) (v : SyncViews) → (if b then all_flushed v else v).fixed.config ≡ v.fixed.config
odd_then true v = refl
odd_then false v = refl

module _ (run next : SyncRun) (before after : Disk) (s : Shown) (p : Past) (began : p.created ≤ moments before) (x : IsSyncOnDisk run before s p) (tries : TriesNext s.suspended run next before after) where
  bytes_each : EachMoment (HasFairBytes run.geometry p.created) before after
  bytes_each = tries.phases.fair p.created began x.bytes

  bytes_now : HasFairBytes run.geometry p.created after.now
  bytes_now = latest (HasFairBytes run.geometry p.created) before after bytes_each

  -- the views after the call
  abbrev then_views : SyncViews
  then_views = views_after run next x.views

  are : AreViewsOf run.geometry s p x.group x.plan x.views
  are = views_of x

  then_are : AreViewsOf run.geometry s p x.group x.plan then_views
  then_are = views_then run.geometry s p x.group x.plan run next x.views are

  held : HoldsLogs run x.views false before.now
  held = held_of x tries.running

  abbrev Logged : Moment → Type 0
  Logged m = IsLoggedPhase run x.views m ⊎ IsLoggedPhase run then_views m

  call : EachMoment Logged before after × (IsUnderWay x.base then_views next after.now × HoldsLogs next then_views false after.now)
  call = holds_logs x.base before after x.views run next tries.same tries.written tries.phases x.way held

  -- what counts is what counted, and the call's own write
  abbrev Hands : Moment → Type 0
  Hands m = HandsOnly p.created (IsWrittenNext run) (handed before.now) m

  hands_each : EachMoment Hands before after
  hands_each = tries.phases.hands p.created

  hands_now : Hands after.now
  hands_now = latest Hands before after hands_each

  -- no config is written but that of the sync
  abbrev KnowsConfigs : Moment → Type 0
  KnowsConfigs m = AreConfigsUpTo run.geometry p.created (handed m) s.guid s.line.synced (IsSyncConfig run.geometry s p)

  configs_known : (m : Moment) → Hands m → KnowsConfigs m
  configs_known m hands = go run.stages refl x.stages
    where
      go : (o : Option LabelStages) → run.stages ≡ o → WritesConfig o run.geometry s p x.group → KnowsConfigs m
      go None plain w = λ label group name content below some is. elim (hands (config_place run.geometry label) content some) as (λ _. (group ≤ s.line.synced) ⊎ IsSyncConfig run.geometry s p group content) [
        | inl written ↦ let staged = configs_staged run run.sized label content below written in absurd (let no_way : None ≡ Some staged.0 = sym plain ∙ staged.1 in cc)
        | inr was ↦ x.configs label group name content below was is
      ]
      go (Some stages) staged (even, c, own) =
          configs_while run stages p.created s.guid s.line.synced (IsSyncConfig run.geometry s p) before.now m run.sized staged
          (λ group name is. let same : x.group ≡ group = sym own.block.group_is ∙ is.block.group_is in subst (λ (g : ℕ). IsSyncConfig run.geometry s p g stages.config) same c) x.configs hands

  configs : KnowsConfigs after.now
  configs = configs_known after.now hands_now

  -- the views of a moment of the call, with its phase
  views_at : (m : Moment) → Logged m → (v : HasSyncViews run.geometry m s p) × PhaseOf v
  views_at m (inl h) = (views_held run m s p x.group x.plan x.syncing x.running x.views are h.1, h.0)
  views_at m (inr h) = (views_held run m s p x.group x.plan x.syncing x.running then_views then_are h.1, h.0)

  -- So each moment of the call is safe, and what a crash leaves then is the pool's own.
  module _ (explained : AreTablesExplained s p) where
    abbrev Known : Moment → Type 0
    Known m = (HasFairBytes run.geometry p.created m × Hands m) × Logged m

    known_each : EachMoment Known before after
    known_each = both (λ m. HasFairBytes run.geometry p.created m × Hands m) Logged before after
        (both (HasFairBytes run.geometry p.created) Hands before after bytes_each hands_each) call.0

    pub call_safe : EachMoment (IsSafeMoment (disk_size before) p) before after
    call_safe = subst (λ (n : ℕ). EachMoment (IsSafeMoment n p) before after) (sym x.bytes.size_is)
        (weaker Known (IsSafeMoment run.geometry p) before after
        (λ m here. let v = views_at m here.1 in moment_safe s p explained run.geometry m (moment_laid run.geometry m s p v.0 v.1 here.0.0 (configs_known m here.0.1))) known_each)

    pub call_own : EachMoment (LeavesOwn (disk_size before) p s.guid) before after
    call_own = subst (λ (n : ℕ). EachMoment (LeavesOwn n p s.guid) before after) (sym x.bytes.size_is)
        (weaker Known (LeavesOwn run.geometry p s.guid) before after
        (λ m here. let v = views_at m here.1 in moment_left run.geometry m s p v.0 v.1 here.0.0 (configs_known m here.0.1) explained) known_each)

  -- After a call with more after it, or a refused one, the disk is kept with what is shown then.
  pub call_kept : (t : Shown) (q : Past) → SameSyncing s t p q → next.done < call_count next → IsSyncOnDisk next after t q
  call_kept t q same left =
      let later = same.plans x.plan x.running in
      record {
        left = left;
        group = x.group;
        stages = subst (λ (o : Option LabelStages). WritesConfig o next.geometry t q x.group) (sym tries.same.stages)
            (stages_as run.stages run.geometry next.geometry s t p q x.group tries.same.geometry same.synced.guid same.line same.synced.base (same.entries x.group x.syncing) x.stages);
        plan = later.0;
        syncing = same.line ∙ x.syncing;
        running = later.1;
        base = x.base;
        views = then_views;
        created = then_are.created ∙ sym same.synced.created;
        odd = odd_then (is_flush (slice_get (calls_of run) run.done) && nat_lt run.done next.done) x.views ∙ x.odd;
        way = call.1.0;
        old_is = synced_view s t p q then_views.flushed then_views.old same.synced then_are.old_is;
        new_is = syncing_view s t p q then_views.new_flushed then_views.new x.group x.plan later.0 same x.syncing later.2 then_are.new_is;
        apart = call.1.1.apart;
        old_held = held_as next.geometry then_views.created q.created then_views.flushed false t.suspended after.now then_views.old (same.synced.created ∙ sym then_are.created) (λ off. refl) call.1.1.old;
        new_held = held_as next.geometry then_views.created q.created then_views.new_flushed false t.suspended after.now then_views.new (same.synced.created ∙ sym then_are.created) (λ off. refl) call.1.1.new;
        old_room = subst (λ (n : ℕ). HasImportRoom (block_count n) then_views.old) (sym tries.same.geometry) then_are.old_room;
        new_room = subst (λ (n : ℕ). HasImportRoom (block_count n) then_views.new) (sym tries.same.geometry) then_are.new_room;
        trees = trees_then x.base run next x.views x.plan.taken later.0.taken tries.same later.2.taken x.trees;
        bytes = subst (λ (n : ℕ). HasFairBytes n q.created after.now) (sym tries.same.geometry) (subst (λ (c : ℕ). HasFairBytes run.geometry c after.now) (sym same.synced.created) bytes_now);
        configs = sync_configs_as (handed after.now) run.geometry next.geometry s t p q tries.same.geometry same.synced.created same.synced.guid same.synced.synced same.line same.synced.base same.entries configs;
      }

  -- After the last one it is at rest on the view of the sync's group.
  module _ (header : IsHeaderIn x.plan.header s.log) (explained : AreTablesExplained s p) (all : next.done ≡ call_count next) where
    abbrev then : State
    then = steps.state_after_sync x.group x.plan (record { shown = s; past = p })

    at_rest : IsAtRest run.geometry p.created then_views.new_flushed after.now then_views.new
    at_rest = subst (λ (n : ℕ). IsAtRest n p.created then_views.new_flushed after.now then_views.new) tries.same.geometry
        (subst (λ (c : ℕ). IsAtRest next.geometry c then_views.new_flushed after.now then_views.new) then_are.created (ends_at_rest x.base after.now then_views next all call.1.0).rest.rest)

    last_held : IsLogHeld run.geometry p.created then_views.new_flushed s.suspended after.now then_views.new
    last_held = subst (λ (n : ℕ). IsLogHeld n p.created then_views.new_flushed s.suspended after.now then_views.new) tries.same.geometry
        (held_as next.geometry then_views.created p.created then_views.new_flushed false s.suspended after.now then_views.new (sym then_are.created) (λ off. refl) call.1.1.new)

    above : s.line.synced ≤ x.group
    above = let next_one : x.group ≡ s.line.synced + 1 = subst (λ (o : Option ℕ). IfSome o (λ g. g ≡ s.line.synced + 1)) x.syncing explained.exact.groups.line.syncing in omega (arith, next_one)

    last_kept : IsPoolDisk (disk_size after) after.now then.shown then.past
    last_kept = subst (λ (n : ℕ). IsPoolDisk n after.now then.shown then.past) (sym bytes_now.size_is) (record {
      bytes = bytes_now;
      configs = configs_weaker run.geometry p.created (handed after.now) s.guid s.line.synced x.group (IsSyncConfig run.geometry s p) (IsSyncConfig run.geometry then.shown then.past) above
          (λ group content c. let same : Some group ≡ Some x.group = sym c.syncing ∙ x.syncing in let is : group ≡ x.group = cc in inl (omega (arith, is))) configs;
      laid = inl (pool_synced run.geometry after.now s p x.group x.plan explained.exact.log header then_views.new_flushed then_views.new at_rest then_are.new_is last_held);
    })

  -- the last call is a flush
  pub last_odd : next.done ≡ call_count next → IsOddSettled (disk_size after) after.now
  last_odd all = odd_settled (disk_size after) after.now (tries.written.settled all)

  pub last_call_kept : (group : ℕ) (plan : SyncPlan) → s.line.syncing ≡ Some group → s.sync ≡ Some plan → IsHeaderIn plan.header s.log → AreTablesExplained s p → next.done ≡ call_count next
      → IsPoolDisk (disk_size after) after.now (steps.state_after_sync group plan (record { shown = s; past = p })).shown (steps.state_after_sync group plan (record { shown = s; past = p })).past
  last_call_kept group plan syncing running header explained all =
      let st : State = record { shown = s; past = p } in
      let of_group : x.group ≡ group = let same : Some x.group ≡ Some group = sym x.syncing ∙ syncing in cc in
      let of_plan : x.plan ≡ plan = let same : Some x.plan ≡ Some plan = sym x.running ∙ running in cc in
      subst (λ (g : ℕ). IsPoolDisk (disk_size after) after.now (steps.state_after_sync g plan st).shown (steps.state_after_sync g plan st).past) of_group
      (subst (λ (q : SyncPlan). IsPoolDisk (disk_size after) after.now (steps.state_after_sync x.group q st).shown (steps.state_after_sync x.group q st).past) of_plan
      (last_kept (subst (λ (q : SyncPlan). IsHeaderIn q.header s.log) (sym of_plan) header) explained all))
