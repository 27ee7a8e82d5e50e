-- Each step of a state keeps its crash rule: one that moves nothing, the start of a sync, and a step of it.
use Rattle.std.proofs.Common.{◌≡◌, ◌∙◌, inl, inr, ℕ, ◌<◌, false, length, List, Option, Some, None, refl, ap, sym, subst, arith}
use Rattle.std.specs.Prelude.{Err, IsTrue, Ok, OnErr, Result, option_map}
use Rattle.base.specs.declared.error.PoolError.{PoolError}
use Rattle.base.specs.declared.names.Group.{Group}
use Rattle.base.specs.declared.step.Step as declared_step
use Rattle.base.specs.declared.step.Step.TheVariants as step
use Rattle.base.specs.declared.step.Reply as declared_reply
use Rattle.base.specs.declared.step.Reply.TheVariants as reply
use Rattle.base.specs.disk.Disk.{Disk, bytes_of}
use Rattle.base.specs.formats.Geometry.{slot_of}
use Rattle.base.specs.steps.Runs.{is_log_step}
use Rattle.base.specs.steps.Shown.{SyncPlan}
use Rattle.base.specs.kept.Stored.{Held, NewTree, is_turn}
use Rattle.base.proofs.common.KeptLists.{Some-injective, mapped}
use Rattle.device_model.specs.declared.device.SectorDevice.{Ghosts}
use Rattle.extents.specs.Synced.{patched_contents}
use Rattle.unsynced_extents.specs.Unsynced.{changes_at, name_at}
use Rattle.sync.specs.declared.run.LabelStages.{LabelStages}
use Rattle.sync.specs.declared.run.SyncRun.{SyncRun}
use Rattle.sync.specs.Runs.{call_count}
use Rattle.pool_tables.specs.declared.pool.PoolTables.{PoolTables}
use Rattle.pool_tables.specs.declared.pool.RunningSync.{RunningSync}
use Rattle.pool_core.specs.declared.state.PoolState.{PoolState}
use Rattle.pool_tables.specs.declared.pool.Progress.{Progress}
use Rattle.pool_tables.specs.declared.pool.Progress.TheVariants.{More, Synced}
use Rattle.labels.specs.declared.stage.Stage.TheVariants.{Even}
use Rattle.sync.specs.GroupLabels.{stages_for}
use Rattle.pool_tables.specs.Shows.{contents_after_oldest, plan_of, pool_shown, synced_of}
use Rattle.pool_tables.specs.Told.{Leads, new_tree_of, start_reply, sync_step_reply, tree_after}
use Rattle.pool_tables.specs.SyncPhases.{StepsPhases}
use Rattle.pool_core.specs.KeptSafe.{IsSafeStep, KeepsSafe, OnDisk, disk_of, on_disk, run_of}
use Rattle.pool_core.specs.States.{device_of, shown, told}
use Rattle.pool_core.specs.Turns.{Turns, held_after}
use Rattle.pool_core.proofs.crash.SafeSteps.{IsStagedFor, last_safe, more_safe, start_safe, still_safe}
use Rattle.pool_tables.proofs.syncs.SyncLeads.{was_syncing}

-- a running sync has calls left
left_of : (pool : PoolTables) (run : SyncRun) → option_map (λ (r : RunningSync). r.run) pool.sync ≡ Some run → run.done < call_count run
left_of pool run is =
    let r = mapped (λ (r : RunningSync). r.run) pool.sync run is in
    subst (λ (x : SyncRun). x.done < call_count x) r.2 (pool.running r.0 r.1).left

-- what is shown of the plan of a running sync is its own: its label stages have the name of its contents, and it has a
-- step for each of its calls
module _ (pool : PoolTables) (r : RunningSync) (at : pool.sync ≡ Some r) where
  plan_is : (plan : SyncPlan) → (pool_shown pool).sync ≡ Some plan → plan_of pool.synced.tree (contents_after_oldest pool) r ≡ plan
  plan_is plan is = Some-injective (sym (ap (λ (o : Option RunningSync). option_map (plan_of pool.synced.tree (contents_after_oldest pool)) o) at) ∙ is)

  counted_plan : (plan : SyncPlan) → r.run.done ≡ 0 → (pool_shown pool).sync ≡ Some plan → plan.steps_left ≡ call_count r.run
  counted_plan plan none is = subst (λ (l : SyncPlan). l.steps_left ≡ call_count r.run) (plan_is plan is) (omega (arith, none))

  staged_plan : (g : ℕ) (plan : SyncPlan) → r.run.geometry ≡ pool.geometry → r.run.stages ≡ stages_for pool.guid r.group.0 pool.geometry Even (name_at pool.changes 0) → (pool_shown pool).line.syncing ≡ Some g
      → (pool_shown pool).sync ≡ Some plan → IsStagedFor r.run.stages r.run.geometry pool.guid g plan.contents.name
  staged_plan g plan sized stages syncing is =
      subst (λ (l : SyncPlan). IsStagedFor r.run.stages r.run.geometry pool.guid g l.contents.name) (plan_is plan is)
      (subst (λ (n : ℕ). IsStagedFor r.run.stages n pool.guid g (contents_after_oldest pool).name) (sym sized)
      (subst (λ (h : ℕ). IsStagedFor r.run.stages pool.geometry pool.guid h (contents_after_oldest pool).name) (Some-injective (sym (was_syncing pool r at) ∙ syncing))
      (subst (λ (o : Option LabelStages). IsStagedFor o pool.geometry pool.guid r.group.0 (contents_after_oldest pool).name) (sym stages) (go (name_at pool.changes 0)))))
    where
      go : (given : Option (List ℕ)) → IsStagedFor (stages_for pool.guid r.group.0 pool.geometry Even given) pool.geometry pool.guid r.group.0 (patched_contents (changes_at pool.changes 0) given (synced_of pool)).name
      go None = tt
      go (Some name) = (refl, refl)

module _ {Dev : Type 0} {G : Ghosts Dev} where
  module _ (keeps : IsTrue G.keeps_model) (old new : PoolState Dev G) where
    -- a step that writes nothing, and neither starts a sync nor ends one
    pub still_keeps : (s : declared_step.Step) (r : declared_reply.Reply) → is_turn r ≡ false → is_log_step s ≡ false → disk_of new ≡ disk_of old → run_of new ≡ run_of old → Turns s r old new → KeepsSafe s r old new
    still_keeps s r off no_log disk run turns past x =
        let turn = turns past in
        let h : Held = held_after s r (told old) (told new) past in
        subst (λ (y : OnDisk). IsSafeStep s r (on_disk old past) y) (λ k. record { held = h; disk = sym disk k; run = sym run k })
        (still_safe (on_disk old past) x s r h (ap (λ (d : Disk). bytes_of d.now) disk) (turn.over keeps x.held) off no_log (turn.held keeps x.held))

    -- the start of a sync
    started_keeps : (moment : ℕ) (group : Group) → ((d : Dev) → length (bytes_of (G.disk d).now) ≡ G.size d) → G.size (device_of new) ≡ G.size (device_of old) → disk_of new ≡ disk_of old → Leads (reply.Syncing group) (told old) (told new)
        → Turns (step.StartSync moment) (reply.Syncing group) old new → KeepsSafe (step.StartSync moment) (reply.Syncing group) old new
    started_keeps moment group sized size disk leads turns past x =
        let turn = turns past in
        let h : Held = held_after (step.StartSync moment) (reply.Syncing group) (told old) (told new) past in
        let starts = leads past past in
        let pool : PoolTables = new.pool in
        let r = mapped (new_tree_of pool.synced.tree) pool.sync _ starts.running in
        let was = pool.running r.0 r.1 in
        subst (λ (y : OnDisk). IsSafeStep (step.StartSync moment) (reply.Syncing group) (on_disk old past) y)
        (λ k. record { held = h; disk = sym disk k; run = option_map (λ (q : RunningSync). q.run) (sym r.1 k) })
        (start_safe (on_disk old past) x moment group h (r.0).run (tree_after r.0 pool.synced.tree) (turn.over keeps x.held) (turn.held keeps x.held)
        (ap (λ (d : Disk). bytes_of d.now) disk) (ap (λ (o : Option RunningSync). option_map (new_tree_of pool.synced.tree) o) r.1)
        (was.geometry ∙ sym new.sized ∙ size ∙ sym (sized (device_of old)))
        (λ g plan syncing is. staged_plan pool r.0 r.1 g plan was.geometry was.stages syncing is) (λ plan is. counted_plan pool r.0 r.1 plan (ap (λ (t : NewTree). t.done) r.2) is)
        (λ g syncing. was.uberblock.slot ∙ ap (λ (n : ℕ). slot_of n) (Some-injective (sym (was_syncing pool r.0 r.1) ∙ syncing))) (ap (λ (t : NewTree). t.done) r.2) was.left)

    -- started or refused
    pub start_keeps : (moment : ℕ) (answer : Result Group PoolError) (r : declared_reply.Reply) → r ≡ start_reply answer → ((d : Dev) → length (bytes_of (G.disk d).now) ≡ G.size d)
        → G.size (device_of new) ≡ G.size (device_of old) → disk_of new ≡ disk_of old → OnErr answer (run_of new ≡ run_of old) → Leads r (told old) (told new) → Turns (step.StartSync moment) r old new → KeepsSafe (step.StartSync moment) r old new
    start_keeps moment (Ok group) r is sized size disk unmoved leads turns =
        subst (λ (q : declared_reply.Reply). KeepsSafe (step.StartSync moment) q old new) (sym is)
        (started_keeps moment group sized size disk (subst (λ (q : declared_reply.Reply). Leads q (told old) (told new)) is leads)
        (subst (λ (q : declared_reply.Reply). Turns (step.StartSync moment) q old new) is turns))
    start_keeps moment (Err e) r is sized size disk unmoved leads turns = still_keeps (step.StartSync moment) r (ap is_turn is) refl disk unmoved turns

    -- a step of one, by what its call answered
    stepped_keeps : (answer : Result Progress PoolError) → StepsPhases answer (shown old).suspended (run_of old) (run_of new) (disk_of old) (disk_of new) → Turns step.SyncStep (sync_step_reply answer) old new
        → KeepsSafe step.SyncStep (sync_step_reply answer) old new
    stepped_keeps (Ok More) (run, next, was, is, tries) turns past x =
        let turn = turns past in
        let h : Held = held_after step.SyncStep reply.More (told old) (told new) past in
        subst (λ (y : OnDisk). IsSafeStep step.SyncStep reply.More (on_disk old past) y) (λ k. record { held = h; disk = disk_of new; run = sym is k })
        (more_safe (on_disk old past) x h (disk_of new) refl run next was tries (turn.held keeps x.held) reply.More (turn.over keeps x.held) refl refl (left_of new.pool next is))
    stepped_keeps (Ok (Synced group)) (run, next, was, is, all, tries) turns past x =
        let turn = turns past in
        let h : Held = held_after step.SyncStep (reply.Synced group) (told old) (told new) past in
        subst (λ (y : OnDisk). IsSafeStep step.SyncStep (reply.Synced group) (on_disk old past) y) (λ k. record { held = h; disk = disk_of new; run = sym is k })
        (last_safe (on_disk old past) x h (disk_of new) refl run next was tries (turn.held keeps x.held) group (turn.over keeps x.held) all)
    stepped_keeps (Err e) (inl (run, disk)) turns past x =
        let turn = turns past in
        let h : Held = held_after step.SyncStep (reply.Refused e) (told old) (told new) past in
        subst (λ (y : OnDisk). IsSafeStep step.SyncStep (reply.Refused e) (on_disk old past) y) (λ k. record { held = h; disk = sym disk k; run = sym run k })
        (still_safe (on_disk old past) x step.SyncStep (reply.Refused e) h (ap (λ (d : Disk). bytes_of d.now) disk) (turn.over keeps x.held) refl refl (turn.held keeps x.held))
    stepped_keeps (Err e) (inr (run, next, was, is, tries)) turns past x =
        let turn = turns past in
        let h : Held = held_after step.SyncStep (reply.Refused e) (told old) (told new) past in
        subst (λ (y : OnDisk). IsSafeStep step.SyncStep (reply.Refused e) (on_disk old past) y) (λ k. record { held = h; disk = disk_of new; run = sym is k })
        (more_safe (on_disk old past) x h (disk_of new) refl run next was tries (turn.held keeps x.held) (reply.Refused e) (turn.over keeps x.held) refl refl (left_of new.pool next is))

    pub sync_keeps : (answer : Result Progress PoolError) (r : declared_reply.Reply) → r ≡ sync_step_reply answer → StepsPhases answer (shown old).suspended (run_of old) (run_of new) (disk_of old) (disk_of new)
        → Turns step.SyncStep r old new → KeepsSafe step.SyncStep r old new
    sync_keeps answer r is phases turns =
        subst (λ (q : declared_reply.Reply). KeepsSafe step.SyncStep q old new) (sym is)
        (stepped_keeps answer phases (subst (λ (q : declared_reply.Reply). Turns step.SyncStep q old new) is turns))
