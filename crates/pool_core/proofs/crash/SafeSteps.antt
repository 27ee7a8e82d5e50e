-- Each step of a pool keeps the crash rule, and each of its moments is safe.
use Rattle.std.proofs.Common.{◌≡◌, ◌∙◌, inl, inr, ℕ, ◌+◌, ◌<◌, ◌≤◌, Bool, true, false, List, [], length, map, Option, Some, None, refl, ap, sym, subst, arith}
use Rattle.std.specs.Prelude.{Ok, Err, Result, ⊤, if◌then◌else◌}
use Rattle.std.specs.List.{list_any}
use Rattle.std.proofs.lemmas.List.{length-map}
use Rattle.base.specs.declared.error.PoolError.{PoolError}
use Rattle.base.specs.declared.names.Group.{Group}
use Rattle.base.specs.declared.pointer.Pointer.{Pointer}
use Rattle.base.specs.declared.step.Step as declared_step
use Rattle.base.specs.declared.step.Step.TheVariants as step
use Rattle.base.specs.declared.step.Reply as declared_reply
use Rattle.base.specs.declared.step.Reply.TheVariants as reply
use Rattle.base.specs.kept.LogRule.{IsLogHeld}
use Rattle.base.specs.kept.LogSteps.{IsHeaderIn}
use Rattle.base.specs.kept.Own.{IsAtRest}
use Rattle.base.specs.kept.PoolViews.{IsPoolDisk, IsSyncConfig}
use Rattle.base.specs.kept.Views.{AreConfigsUpTo, IsConfigContent, IsFixed, IsSettled, View, config_content}
use Rattle.base.specs.disk.Disk.{Disk, EachMoment, Moment, Write, bytes_of, disk_size, handed, moments}
use Rattle.base.specs.disk.Fairness.{HasFairBytes}
use Rattle.base.specs.formats.Fields.{number_at, part}
use Rattle.base.specs.formats.Geometry.{block_size, config_place, slot_of}
use Rattle.base.specs.history.History.{Entry, entries_up_to, replay}
use Rattle.base.specs.history.Past.{Past}
use Rattle.base.specs.steps.Exact.{AreDistinctPlaces}
use Rattle.base.specs.steps.Refusals as refusal
use Rattle.base.specs.steps.Runs.{is_log_step, progress_reply, reply_of}
use Rattle.base.specs.steps.Shown.{Shown, SyncPlan}
use Rattle.base.specs.steps.Steps as steps
use Rattle.base.specs.steps.Steps.{IsPlanned, State, SyncProgress, ops_of_group}
use Rattle.base.specs.steps.Steps.SyncProgress.{More, Synced}
use Rattle.base.specs.kept.LabelConfigs.{HaveConfigs, HoldConfigs, WritesName}
use Rattle.base.specs.kept.Stored.{Held, IsHeld, IsStored, IsSyncing, NewTree, RunsAs, is_turn}
use Rattle.base.specs.tree.Places.{Place}
use Rattle.base.specs.kept.PlannedTrees.{NewBlock}
use Rattle.base.specs.tree.Syncs.{is_rename, other_step_count}
use Rattle.base.proofs.crash.OwnDisks.{configs_weaker}
use Rattle.base.proofs.common.KeptLists.{Some-injective}
use Rattle.base.proofs.disk.CheckedPlaces.{fair_config, marked}
use Rattle.base.proofs.disk.Moments.{moments_grow}
use Rattle.base.proofs.history.CommitOrder.{ok-none}
use Rattle.base.proofs.steps.StepEffects.{none_syncs}
use Rattle.base.proofs.stored.StoredPlaces.{kept_distinct}
use Rattle.labels.specs.declared.stage.Stage.TheVariants.{Even}
use Rattle.sync.specs.declared.run.LabelStages.{LabelStages}
use Rattle.sync.specs.declared.run.SyncRun.{SyncRun}
use Rattle.sync.specs.Runs.{call_count, other_calls}
use Rattle.tree_plans.specs.Plans.{new_block}
use Rattle.pool_tables.specs.Told.{config_of, made_by}
use Rattle.pool_core.specs.Holds.{IsStepOver}
use Rattle.pool_tables.specs.SyncPhases.{TriesNext}
use Rattle.pool_core.specs.KeptSafe.{AreSyncTrees, IsDiskKept, IsKeptSafe, IsOddSettled, IsSafeStep, IsSyncOnDisk, LeavesOwn, OnDisk, WritesConfig}
use Rattle.pool_core.proofs.crash.HeldLogs.{held_as}
use Rattle.pool_core.proofs.crash.OwnMoments.{were_left}
use Rattle.pool_core.proofs.crash.SafeCalls.{call_kept, call_own, call_safe, last_call_kept, last_odd}
use Rattle.pool_core.proofs.crash.SafeMoments.{IsSafeMoment, idle_rest, kept_laid, kept_safe, stood_own, stood_safe, were_safe}
use Rattle.pool_core.proofs.crash.StartedViews.{started_kept}
use Rattle.pool_core.proofs.crash.ViewsKept.{SameSynced, SameSyncing, configs_as, stages_as, step_leaves, sync_configs_as, synced_view, syncing_view}

-- while no group is syncing no config counts above the synced group
plain_configs : (s : Shown) (p : Past) → s.line.syncing ≡ None → (size t : ℕ) (ws : List Write) (guid top : ℕ) → AreConfigsUpTo size t ws guid top (IsSyncConfig size s p) → AreConfigsUpTo size t ws guid top (λ above content. ⊥)
plain_configs s p idle size t ws guid top known =
    configs_weaker size t ws guid top top (IsSyncConfig size s p) (λ above content. ⊥) (omega arith) (λ group content config. absurd (let no_way : None ≡ Some group = sym idle ∙ config.syncing in cc)) known

-- What a step leaves that makes no device call, and neither starts a sync nor ends one.
module _ (s t : Shown) (p q : Past) (same : SameSyncing s t p q) where
  abbrev of_synced : SameSynced s t p q
  of_synced = same.synced

  -- what is known of the log of a view
  held_stays : (size flushed : ℕ) (m : Moment) (v : View) → IsLogHeld size p.created flushed s.suspended m v → IsLogHeld size q.created flushed t.suspended m v
  held_stays size flushed m v held = held_as size p.created q.created flushed s.suspended t.suspended m v of_synced.created of_synced.suspended held

  -- the disk of a pool without a sync
  pool_stays : (size : ℕ) (m : Moment) → s.line.syncing ≡ None → IsPoolDisk size m s p → IsPoolDisk size m t q
  pool_stays size m idle kept =
      let rest = idle_rest m s p idle size kept.laid in
      record {
        bytes = subst (λ (c : ℕ). HasFairBytes size c m) (sym of_synced.created) kept.bytes;
        configs = configs_weaker size q.created (handed m) t.guid t.line.synced t.line.synced (λ above content. ⊥) (IsSyncConfig size t q) (omega arith) (λ group content no_way. absurd no_way)
            (configs_as (handed m) size size p.created q.created s.guid t.guid s.line.synced t.line.synced refl of_synced.created of_synced.guid of_synced.synced
            (plain_configs s p idle size p.created (handed m) s.guid s.line.synced kept.configs));
        laid = inl (record {
          v = rest.v;
          flushed = rest.flushed;
          rest = subst (λ (c : ℕ). IsAtRest size c rest.flushed m rest.v) (sym of_synced.created) rest.rest;
          is = synced_view s t p q rest.flushed rest.v of_synced rest.is;
          held = held_stays size rest.flushed m rest.v rest.held;
        });
      }

  -- and of one with a sync
  sync_stays : (run : SyncRun) (disk : Disk) → IsSyncOnDisk run disk s p → IsSyncOnDisk run disk t q
  sync_stays run disk x =
      let later = same.plans x.plan x.running in
      record {
        left = x.left;
        group = x.group;
        stages = stages_as run.stages run.geometry run.geometry s t p q x.group refl of_synced.guid same.line of_synced.base (same.entries x.group x.syncing) x.stages;
        plan = later.0;
        syncing = same.line ∙ x.syncing;
        running = later.1;
        base = x.base;
        views = x.views;
        created = x.created ∙ sym of_synced.created;
        odd = x.odd;
        way = x.way;
        old_is = synced_view s t p q x.views.flushed x.views.old of_synced x.old_is;
        new_is = syncing_view s t p q x.views.new_flushed x.views.new x.group x.plan later.0 same x.syncing later.2 x.new_is;
        apart = x.apart;
        old_held = held_stays run.geometry x.views.flushed disk.now x.views.old x.old_held;
        new_held = held_stays run.geometry x.views.new_flushed disk.now x.views.new x.new_held;
        old_room = x.old_room;
        new_room = x.new_room;
        trees = subst (λ (taken : List ℕ). AreSyncTrees x.base run x.views taken) (sym later.2.taken) x.trees;
        bytes = subst (λ (c : ℕ). HasFairBytes run.geometry c disk.now) (sym of_synced.created) x.bytes;
        configs = sync_configs_as (handed disk.now) run.geometry run.geometry s t p q refl of_synced.created of_synced.guid of_synced.synced same.line of_synced.base same.entries x.configs;
      }

  pub disk_stays : (o : Option SyncRun) (disk : Disk) → IsDiskKept o disk s p → IsDiskKept o disk t q
  disk_stays None disk (idle, kept, odd) = (same.line ∙ idle, pool_stays (disk_size disk) disk.now idle kept, odd)
  disk_stays (Some run) disk kept = sync_stays run disk kept

-- the header of a running sync is one of the log
header_of_sync : (o : Option NewTree) (now : List ℕ) (s : Shown) (pointers : Place → Pointer) (p : Past) (plan : SyncPlan) → RunsAs now s pointers o p → s.sync ≡ Some plan → IsHeaderIn plan.header s.log
header_of_sync None now s pointers p plan none is = absurd (let no_way : None ≡ Some plan = sym none ∙ is in cc)
header_of_sync (Some new) now s pointers p plan y is =
    let same : y.plan ≡ plan = let both : Some plan ≡ Some y.plan = sym is ∙ y.running in cc in
    subst (λ (x : SyncPlan). IsHeaderIn x.header s.log) same y.header

-- what the start of a sync is, and its end
start_of : (now : List ℕ) (moment : ℕ) (group : Group) (answer : Result ℕ PoolError) (old new : State) → reply.Syncing group ≡ reply_of (λ (g : ℕ). reply.Syncing (record { 0 = g })) answer
    → steps.StartSync (Unit {0}) now moment answer old new → (old.shown.line.syncing ≡ None) × ((g : ℕ) × (plan : SyncPlan) × (new ≡ steps.state_after_start g plan old) × IsPlanned old moment g plan)
start_of now moment group (Ok g) old new is h =
    let d = ok-none (refusal.start_refusal old.shown) g old new _ _ h in
    (none_syncs old.shown d.0, (g, d.1.0, d.1.4, d.1.2))
start_of now moment group (Err e) old new is h = absurd (let no_way : reply.Syncing group ≡ reply.Refused e = is in cc)

end_of : (group : Group) (answer : Result SyncProgress PoolError) (old new : State) → reply.Synced group ≡ reply_of progress_reply answer → steps.SyncStep answer old new
    → (g : ℕ) × (plan : SyncPlan) × (old.shown.line.syncing ≡ Some g) × (old.shown.sync ≡ Some plan) × (new ≡ steps.state_after_sync g plan old)
end_of group (Ok (Synced g)) old new is h =
    let d = (ok-none (refusal.sync_step_refusal old.shown) (Synced g) old new _ _ h).1 in
    (d.0, d.1, d.2, d.3, d.4.2)
end_of group (Ok More) old new is h = absurd (let no_way : reply.Synced group ≡ reply.More = is in cc)
end_of group (Err e) old new is h = absurd (let no_way : reply.Synced group ≡ reply.Refused e = is in cc)

started_same : (g : ℕ) (plan : SyncPlan) (s : State) → SameSynced s.shown (steps.state_after_start g plan s).shown s.past (steps.state_after_start g plan s).past
started_same g plan s = record { guid = refl; import_is = refl; synced = refl; root = refl; log = refl; kept = refl; begun = refl; base = refl; created = refl; acknowledged = refl; entries = refl; grown = λ i e at. at; suspended = λ off. off }

-- label stages of a name, the even labels first
abbrev pub IsStagedFor : Option LabelStages → (size guid group : ℕ) → List ℕ → Type 0
IsStagedFor None size guid group name = ⊤
IsStagedFor (Some stages) size guid group name = (stages.first ≡ Even) × (stages.config ≡ config_content size guid group name)

-- those of the contents that a sync makes write the config of its group
writes_config : (o : Option LabelStages) (size : ℕ) (s : Shown) (p : Past) (group : ℕ) (plan : SyncPlan) → s.line.syncing ≡ Some group → replay (entries_up_to group p.entries) p.base ≡ Ok plan.contents
    → IsStagedFor o size s.guid group plan.contents.name → other_calls o ≡ other_step_count (ops_of_group group p.entries) → (name : List ℕ) → WritesName (config_of o) size s.guid group name plan.contents.name → WritesConfig o size s p group
writes_config None size s p group plan syncing replayed staged others name named = tt
writes_config (Some stages) size s p group plan syncing replayed staged others name named = (
  staged.0,
  record { syncing = syncing; renamed = twelve (list_any is_rename (ops_of_group group p.entries)) others; contents = plan.contents; replayed = replayed; content_is = staged.1 },
  named,
)
  where
    twelve : (b : Bool) → 12 ≡ 6 + (if b then 6 else 0) → b ≡ true
    twelve true same = refl
    twelve false same = absurd (omega (arith, same))

-- While no group is syncing label 1 has the config of the view, settled.
odd_kept : (o : Option SyncRun) (disk : Disk) (s : Shown) (p : Past) → s.line.syncing ≡ None → IsDiskKept o disk s p → IsOddSettled (disk_size disk) disk.now
odd_kept None disk s p idle kept = kept.2
odd_kept (Some run) disk s p idle kept = absurd (let no_way : None ≡ Some kept.group = sym idle ∙ kept.syncing in cc)

-- the bytes of a label's config
abbrev label_bytes : ℕ → Moment → ℕ → List ℕ
label_bytes size m label = part (bytes_of m) (config_place size label) block_size

odd_fixed : (size t : ℕ) (m : Moment) (flushed : ℕ) (v : View) (s : Shown) (p : Past) (pointers : Place → Pointer) (running : Option NewTree) (now : List ℕ) → s.line.syncing ≡ None → now ≡ bytes_of m → IsAtRest size t flushed m v
    → HasFairBytes size t m → v.u.guid ≡ s.guid → RunsAs now s pointers running p → HoldConfigs now s running p → IsOddSettled size m → IsFixed m (config_place size 1) v.config
odd_fixed size t m flushed v s p pointers (Some tree) now idle same rest bytes guid runs holds odd = absurd (let no_way : None ≡ Some runs.group = sym idle ∙ runs.syncing in cc)
odd_fixed size t m flushed v s p pointers None now idle same rest bytes guid runs holds odd = record {
  settled = subst (λ (n : ℕ). IsSettled m (config_place size 1) n) (sym whole) odd;
  stands = ap (λ (n : ℕ). part (bytes_of m) (config_place size 1) n) whole ∙ there;
}
  where
    whole : length v.config ≡ block_size
    whole = rest.laid.view.config.block.size

    have : HaveConfigs (bytes_of m) v.u.guid holds.group holds.synced.name [] 0
    have = subst (λ (g : ℕ). HaveConfigs (bytes_of m) g holds.group holds.synced.name [] 0) (sym guid) (subst (λ (l : List ℕ). HaveConfigs l s.guid holds.group holds.synced.name [] 0) same holds.have)

    in_label : (label : ℕ) → label < 4 → IsConfigContent (label_bytes size m label) size v.u.guid holds.group holds.synced.name
    in_label label below =
        let c = have.left label below (omega arith) in
        subst (λ (n : ℕ). IsConfigContent (part (bytes_of m) (config_place n label) block_size) n v.u.guid holds.group holds.synced.name) bytes.size_is (record { payload = c.payload; block = c.block; fields = c.fields })

    -- the label with what is fixed has a config of the same group
    of_group : holds.group ≡ v.config_group
    of_group =
        let fixed = rest.laid.firm.config in
        let stands : label_bytes size m fixed.label ≡ v.config = ap (λ (n : ℕ). part (bytes_of m) (config_place size fixed.label) n) (sym whole) ∙ fixed.fixed.stands in
        sym (in_label fixed.label fixed.in_range).block.group_is ∙ ap (λ (l : List ℕ). number_at l 16) stands ∙ rest.laid.view.config.block.group_is

    there : label_bytes size m 1 ≡ v.config
    there =
        let is = in_label 1 (omega arith) in
        let some = fair_config size t (handed m) (bytes_of m) bytes.fair 1 (omega arith) is.block.agrees (marked (label_bytes size m 1) 0 is.block.kind_is) in
        elim (rest.laid.configs 1 holds.group holds.synced.name (label_bytes size m 1) (omega arith) some is (omega (arith, of_group, rest.laid.view.not_above))) as (λ _. label_bytes size m 1 ≡ v.config) [
          | inl lower ↦ absurd (omega (arith, lower, of_group))
          | inr is_it ↦ is_it
        ]

module _ (x : OnDisk) (safe : IsKeptSafe x) where
  abbrev s : Shown
  s = x.held.state.shown

  abbrev p : Past
  p = x.held.state.past

  -- a step that makes no call, and neither starts a sync nor ends one
  pub still_safe : (st : declared_step.Step) (r : declared_reply.Reply) (h : Held) → h.now ≡ bytes_of x.disk.now → IsStepOver st r x.held h → is_turn r ≡ false → is_log_step st ≡ false → IsHeld h
      → IsSafeStep st r x (record x { held = h })
  still_safe st r h same_bytes step off no_log held =
      let same : SameSyncing s h.state.shown p h.state.past = step_leaves (Unit {0}) x.held.now st r x.held.state h.state step off no_log safe.held.explained in
      let kept : IsKeptSafe (record x { held = h }) = record {
        held = held;
        same_bytes = same_bytes;
        began = subst (λ (c : ℕ). c ≤ moments x.disk) (sym same.synced.created) safe.began;
        kept = disk_stays s h.state.shown p h.state.past same x.run x.disk safe.kept;
      } in
      record { step = step; kept = kept; were = stood_safe x.disk p h.state.past same.synced.acknowledged (kept_safe (record x { held = h }) kept); own = stood_own (record x { held = h }) p same.synced.acknowledged kept }

  -- the start of a sync
  module _ (moment : ℕ) (group : Group) (h : Held) (run : SyncRun) (tree : Place → Pointer) (made : IsStepOver (step.StartSync moment) (reply.Syncing group) x.held h) (held : IsHeld h)
      (same_bytes : h.now ≡ bytes_of x.disk.now) (running : h.running ≡ Some (made_by tree run)) (size : run.geometry ≡ disk_size x.disk) (stages : (g : ℕ) (plan : SyncPlan) → h.state.shown.line.syncing ≡ Some g → h.state.shown.sync ≡ Some plan → IsStagedFor run.stages run.geometry h.state.shown.guid g plan.contents.name)
      (counts : (plan : SyncPlan) → h.state.shown.sync ≡ Some plan → plan.steps_left ≡ call_count run)
      (slot : (g : ℕ) → h.state.shown.line.syncing ≡ Some g → run.slot ≡ slot_of g) (none : run.done ≡ 0) (left : run.done < call_count run) where
    abbrev t : Shown
    t = h.state.shown

    abbrev q : Past
    q = h.state.past

    begun : (s.line.syncing ≡ None) × ((g : ℕ) × (plan : SyncPlan) × (h.state ≡ steps.state_after_start g plan x.held.state) × IsPlanned x.held.state moment g plan)
    begun = start_of x.held.now moment group made.0 x.held.state h.state made.1 made.2

    same : SameSynced s t p q
    same = subst (λ (u : State). SameSynced s u.shown p u.past) (sym begun.1.2) (started_same begun.1.0 begun.1.1 x.held.state)

    stored : IsStored (bytes_of x.disk.now) t h.pointers q
    stored = subst (λ (l : List ℕ). IsStored l t h.pointers q) same_bytes held.kept.stored

    syncing : IsSyncing (bytes_of x.disk.now) t h.pointers (made_by tree run) q
    syncing = subst (λ (l : List ℕ). IsSyncing l t h.pointers (made_by tree run) q) same_bytes (subst (λ (o : Option NewTree). RunsAs h.now t h.pointers o q) running held.kept.sync)

    -- its group has so many steps besides its blocks, so it has label stages only with a new name
    others : other_calls run.stages ≡ other_step_count (ops_of_group syncing.group q.entries)
    others =
        let of_group : begun.1.0 ≡ syncing.group = Some-injective (sym (ap (λ (u : State). u.shown.line.syncing) begun.1.2) ∙ syncing.syncing) in
        let of_plan : begun.1.1 ≡ syncing.plan = Some-injective (sym (ap (λ (u : State). u.shown.sync) begun.1.2) ∙ syncing.running) in
        let entries : q.entries ≡ p.entries = ap (λ (u : State). u.past.entries) begun.1.2 in
        let planned : syncing.plan.steps_left ≡ length syncing.plan.taken + other_step_count (ops_of_group syncing.group q.entries) =
        subst (λ (es : List Entry). syncing.plan.steps_left ≡ length syncing.plan.taken + other_step_count (ops_of_group syncing.group es)) (sym entries)
        (subst (λ (g : ℕ). syncing.plan.steps_left ≡ length syncing.plan.taken + other_step_count (ops_of_group g p.entries)) of_group
        (subst (λ (l : SyncPlan). l.steps_left ≡ length l.taken + other_step_count (ops_of_group begun.1.0 p.entries)) of_plan begun.1.3.steps)) in
        let count : syncing.plan.steps_left ≡ call_count run = counts syncing.plan syncing.running in
        let taken : length syncing.plan.taken ≡ length run.blocks.items = ap (λ (l : List ℕ). length l) (sym syncing.planned.taken) ∙ length-map (map new_block run.blocks.items) (λ (b : NewBlock). b.address) ∙ length-map run.blocks.items new_block in
        omega (arith, planned, count, taken, run.blocks.ok.0)

    staged : WritesConfig run.stages run.geometry t q syncing.group
    staged = writes_config run.stages run.geometry t q syncing.group syncing.plan syncing.syncing (held.explained.trees.planned syncing.group syncing.plan syncing.syncing syncing.running).replayed
        (stages syncing.group syncing.plan syncing.syncing syncing.running) others syncing.synced.name
        (subst (λ (n : ℕ). WritesName (config_of run.stages) n t.guid syncing.group syncing.synced.name syncing.plan.contents.name) (sym size) syncing.named)

    pool : IsPoolDisk run.geometry x.disk.now s p
    pool = subst (λ (n : ℕ). IsPoolDisk n x.disk.now s p) (sym size) (kept_laid x safe)

    places : AreDistinctPlaces (bytes_of x.disk.now) t
    places = subst (λ (l : List ℕ). AreDistinctPlaces l t) same_bytes (kept_distinct h.now t h.pointers h.running q held.kept)

    sync_kept : IsSyncOnDisk run x.disk t q
    sync_kept =
        let rest = idle_rest x.disk.now s p begun.0 run.geometry pool.laid in
        started_kept x.disk t q h.pointers tree run stored syncing held.explained places run.sized (sym size) (slot syncing.group syncing.syncing) staged rest.flushed rest.v
        (subst (λ (c : ℕ). IsAtRest run.geometry c rest.flushed x.disk.now rest.v) (sym same.created) rest.rest)
        (synced_view s t p q rest.flushed rest.v same rest.is)
        (odd_fixed run.geometry p.created x.disk.now rest.flushed rest.v s p x.held.pointers x.held.running x.held.now begun.0 safe.same_bytes rest.rest pool.bytes rest.is.guid safe.held.kept.sync safe.held.kept.configs
        (subst (λ (n : ℕ). IsOddSettled n x.disk.now) (sym size) (odd_kept x.run x.disk s p begun.0 safe.kept)))
        (held_as run.geometry p.created q.created rest.flushed s.suspended t.suspended x.disk.now rest.v same.created same.suspended rest.held)
        (configs_as (handed x.disk.now) run.geometry run.geometry p.created q.created s.guid t.guid s.line.synced t.line.synced refl same.created same.guid same.synced
        (plain_configs s p begun.0 run.geometry p.created (handed x.disk.now) s.guid s.line.synced pool.configs))
        none left (subst (λ (c : ℕ). HasFairBytes run.geometry c x.disk.now) (sym same.created) pool.bytes)

    pub start_safe : IsSafeStep (step.StartSync moment) (reply.Syncing group) x (record { held = h; disk = x.disk; run = Some run })
    start_safe =
        let kept : IsKeptSafe (record { held = h; disk = x.disk; run = Some run }) = record {
          held = held;
          same_bytes = same_bytes;
          began = subst (λ (c : ℕ). c ≤ moments x.disk) (sym same.created) safe.began;
          kept = sync_kept;
        } in
        record { step = made; kept = kept; were = stood_safe x.disk p q same.acknowledged (kept_safe (record { held = h; disk = x.disk; run = Some run }) kept); own = stood_own (record { held = h; disk = x.disk; run = Some run }) p same.acknowledged kept }

  -- a call of a sync
  module _ (h : Held) (after : Disk) (same_bytes : h.now ≡ bytes_of after.now) (run next : SyncRun) (is : x.run ≡ Some run) (tries : TriesNext s.suspended run next x.disk after) (held : IsHeld h) where
    before : IsSyncOnDisk run x.disk s p
    before = subst (λ (o : Option SyncRun). IsDiskKept o x.disk s p) is safe.kept

    each : EachMoment (IsSafeMoment (disk_size x.disk) p) x.disk after
    each = call_safe run next x.disk after s p safe.began before tries safe.held.explained

    owns : EachMoment (LeavesOwn (disk_size x.disk) p s.guid) x.disk after
    owns = call_own run next x.disk after s p safe.began before tries safe.held.explained

    later : moments x.disk ≤ moments after
    later = moments_grow (IsSafeMoment (disk_size x.disk) p) x.disk after each

    -- with more after it, or refused
    pub more_safe : (r : declared_reply.Reply) → IsStepOver step.SyncStep r x.held h → is_turn r ≡ false → h.state.past ≡ p → next.done < call_count next
        → IsSafeStep step.SyncStep r x (record { held = h; disk = after; run = Some next })
    more_safe r made off same_past left =
        let same : SameSyncing s h.state.shown p h.state.past = step_leaves (Unit {0}) x.held.now step.SyncStep r x.held.state h.state made off refl safe.held.explained in
        let created : h.state.past.created ≡ p.created = same.synced.created in
        record {
          step = made;
          kept = record {
            held = held;
            same_bytes = same_bytes;
            began = omega (arith, created, safe.began, later);
            kept = call_kept run next x.disk after s p safe.began before tries h.state.shown h.state.past same left;
          };
          were = were_safe x.disk after p h.state.past p (λ k. record (same_past k) { acknowledged = p.acknowledged }) each;
          own = were_left x.disk after p h.state.past p s.guid h.state.shown.guid (λ k. record (same_past k) { acknowledged = p.acknowledged }) same.synced.guid owns;
        }

    -- the last one
    pub last_safe : (group : Group) → IsStepOver step.SyncStep (reply.Synced group) x.held h → next.done ≡ call_count next
        → IsSafeStep step.SyncStep (reply.Synced group) x (record { held = h; disk = after; run = None })
    last_safe group made all =
        let over = end_of group made.0 x.held.state h.state made.1 made.2 in
        let header : IsHeaderIn over.1.header s.log = header_of_sync x.held.running x.held.now s x.held.pointers p over.1 safe.held.kept.sync over.3 in
        let created : h.state.past.created ≡ p.created = ap (λ (u : State). u.past.created) over.4 in
        record {
          step = made;
          kept = record {
            held = held;
            same_bytes = same_bytes;
            began = omega (arith, created, safe.began, later);
            kept = (
              ap (λ (u : State). u.shown.line.syncing) over.4,
              subst (λ (u : State). IsPoolDisk (disk_size after) after.now u.shown u.past) (sym over.4)
                  (last_call_kept run next x.disk after s p safe.began before tries over.0 over.1 over.2 over.3 header safe.held.explained all),
              last_odd run next x.disk after s p safe.began before tries all,
            );
          };
          were = were_safe x.disk after p h.state.past p (λ k. record (over.4 k).past { acknowledged = p.acknowledged }) each;
          own = were_left x.disk after p h.state.past p s.guid h.state.shown.guid (λ k. record (over.4 k).past { acknowledged = p.acknowledged }) (ap (λ (u : State). u.shown.guid) over.4) owns;
        }
