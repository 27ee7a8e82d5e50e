-- Views of a pool stay those of its groups while steps go on.
use Rattle.std.proofs.Common.{◌≡◌, ◌∙◌, ◌⊎◌, inl, inr, ℕ, ◌<◌, ◌≤◌, ◌&&◌, false, List, filter, length, Option, Some, None, refl, ap, sym, subst, arith}
use Rattle.std.specs.Prelude.{slice_get, unwrap_or, option_map, nat_le, ◌==◌, ◌-◌}
use Rattle.std.specs.List.{flat_map, list_any}
use Rattle.std.proofs.lemmas.Bool.{cases_order, eq-eqb, false≢true, le-leb, ne_eqb}
use Rattle.base.specs.declared.operation.Op.{Op}
use Rattle.base.specs.declared.pointer.Pointer.{Pointer}
use Rattle.base.specs.declared.step.Step as declared_step
use Rattle.base.specs.declared.step.Reply as declared_reply
use Rattle.base.specs.kept.Layout.{AreNotedOf, header_now, kept_from}
use Rattle.base.specs.kept.PoolViews.{IsOpen, IsSyncConfig, IsViewOf}
use Rattle.base.specs.kept.Views.{AreConfigsUpTo, IsConfigContent, View, config_content}
use Rattle.base.specs.disk.Disk.{HandedSince, Write}
use Rattle.base.specs.formats.Chain.{Header}
use Rattle.base.specs.formats.Records.{Record}
use Rattle.base.specs.formats.Geometry.{config_place}
use Rattle.base.specs.history.Contents.{Contents}
use Rattle.base.specs.history.History.{Entry, replay, entries_in, entries_up_to}
use Rattle.base.specs.history.Past.{Past}
use Rattle.base.specs.kept.Effects.{Effect, MayAddEntry, MayHave, is_logging, is_turning, state_after}
use Rattle.base.specs.kept.Effects.Effect.{AddsEntry, PlansSync, CountsStep, EndsSync, Suspends, WritesLog, FlushesLog}
use Rattle.base.specs.steps.Tables.{AreTablesExplained}
use Rattle.base.specs.steps.Groups.{Admission, open_transactions}
use Rattle.base.specs.steps.Logs.{Begun, KeptBlock, Log, header_at}
use Rattle.base.specs.steps.Runs.{Step, is_log_step}
use Rattle.base.specs.steps.Shown.{Shown, SyncPlan}
use Rattle.base.specs.steps.Steps as steps
use Rattle.base.specs.steps.Steps.{State, ops_of_group}
use Rattle.base.specs.tree.Syncs.{is_rename}
use Rattle.base.specs.kept.Stored.{is_turn}
use Rattle.base.proofs.common.KeptLists.{Some-injective, at_old, found_at}
use Rattle.base.proofs.common.Sieves.{filter-filter}
use Rattle.base.proofs.history.Cuts.{up_to_push}
use Rattle.base.proofs.steps.KeptGroups.{held_above, held_above_sync}
use Rattle.base.proofs.steps.StepEffects.{StepDoes, step_does}
use Rattle.sync.specs.declared.run.LabelStages.{LabelStages}
use Rattle.pool_core.specs.KeptSafe.{WritesConfig}

-- each entry of the one history is one of the other, at the same place
abbrev pub Grows : List Entry → List Entry → Type 0
Grows before after = (i : ℕ) (e : Entry) → slice_get before i ≡ Some e → slice_get after i ≡ Some e

-- what the view of the synced group rests on is as before
pub record SameSynced (s t : Shown) (p q : Past) : Type 0 where
  pub guid : t.guid ≡ s.guid
  pub import_is : t.import_number ≡ s.import_number
  pub synced : t.line.synced ≡ s.line.synced
  pub root : t.root ≡ s.root
  pub log : t.log.next ≡ s.log.next
  pub kept : t.log.kept ≡ s.log.kept
  pub begun : t.log.begun ≡ s.log.begun
  pub base : q.base ≡ p.base
  pub created : q.created ≡ p.created
  pub acknowledged : q.acknowledged ≡ p.acknowledged
  pub entries : entries_up_to s.line.synced q.entries ≡ entries_up_to s.line.synced p.entries
  -- and each entry that was there is
  pub grown : Grows p.entries q.entries
  -- a suspended pool stays so
  pub suspended : t.suspended ≡ false → s.suspended ≡ false

-- but for the steps that are left a plan is the same
pub record SamePlan (plan later : SyncPlan) : Type 0 where
  pub root : later.root ≡ plan.root
  pub header : later.header ≡ plan.header
  pub taken : later.taken ≡ plan.taken

-- and so is what the view of the running sync's group rests on
pub record SameSyncing (s t : Shown) (p q : Past) : Type 0 where
  pub synced : SameSynced s t p q
  pub line : t.line.syncing ≡ s.line.syncing
  pub plans : (plan : SyncPlan) → s.sync ≡ Some plan → (later : SyncPlan) × (t.sync ≡ Some later) × SamePlan plan later
  pub entries : (group : ℕ) → s.line.syncing ≡ Some group → entries_up_to group q.entries ≡ entries_up_to group p.entries

-- the log begins as before
pub header_same : (log other : Log) → other.kept ≡ log.kept → other.next ≡ log.next → header_now other ≡ header_now log
header_same log other kept next = λ k. unwrap_or (option_map header_at (slice_get (kept k) 0)) (next k)

-- a kept block has what is noted of its records, also in a history that went on
block_grown : (before after : List Entry) (k : KeptBlock) (ends : List Record) → Grows before after → AreNotedOf before k ends → AreNotedOf after k ends
block_grown before after k ends grows is = record {
  noted = is.noted;
  records = λ i c r at_c at_r. let of = is.records i c r at_c at_r in (of.0, (of.1.0, grows c.ordinal of.1.0 of.1.1, of.1.2, of.1.3));
}

-- A view of a group is that of a group of another state, where what it says is as before, and so is the kept log.
pub view_as : (flushed : ℕ) (v : View) (s t : Shown) (p q : Past) (group other : ℕ) (root under : Pointer) (header first : Header) → t.log.kept ≡ s.log.kept → t.log.begun ≡ s.log.begun → t.log.next ≡ s.log.next → Grows p.entries q.entries → t.guid ≡ s.guid
    → t.import_number ≡ s.import_number → other ≡ group → under ≡ root → first ≡ header → replay (entries_up_to other q.entries) q.base ≡ replay (entries_up_to group p.entries) p.base
    → IsViewOf flushed v s p group root header → IsViewOf flushed v t q other under first
view_as flushed v s t p q group other root under header first kept begun next grown guid import_is same_group same_root same_header replays is = record {
  guid = is.guid ∙ sym guid;
  group_is = is.group_is ∙ sym same_group;
  root_is = is.root_is ∙ sym same_root;
  import_is = is.import_is ∙ sym import_is;
  header_is = is.header_is ∙ sym same_header;
  replayed = replays ∙ is.replayed;
  as_many = is.as_many ∙ ap (λ (ks : List KeptBlock). length ks) (sym blocks);
  blocks = λ i k l at there. let was = is.blocks i k l (at_before i k at) there in (was.0, block_grown p.entries q.entries k l.ends grown was.1);
  flushed_are = λ i k at flushed. is.flushed_are i k (at_before i k at) flushed;
  goes_on = is.goes_on ∙ sym next;
  version_is = is.version_is;
  pieces = subst (λ (o : Option Begun). IsOpen v.u.version o v.logged) (sym begun) is.pieces;
}
  where
    blocks : kept_from first t.log ≡ kept_from header s.log
    blocks = λ k. filter (λ (b : KeptBlock). nat_le (same_header k).number b.number) (kept k)

    at_before : (i : ℕ) (k : KeptBlock) → slice_get (kept_from first t.log) i ≡ Some k → slice_get (kept_from header s.log) i ≡ Some k
    at_before i k at = subst (λ (ks : List KeptBlock). slice_get ks i ≡ Some k) blocks at

module _ (s t : Shown) (p q : Past) (flushed : ℕ) (v : View) where
  -- the view of the synced group stays its view
  pub synced_view : SameSynced s t p q → IsViewOf flushed v s p s.line.synced s.root (header_now s.log) → IsViewOf flushed v t q t.line.synced t.root (header_now t.log)
  synced_view same is = view_as flushed v s t p q s.line.synced t.line.synced s.root t.root (header_now s.log) (header_now t.log) same.kept same.begun same.log same.grown same.guid same.import_is same.synced same.root
      (header_same s.log t.log same.kept same.log)
      ((λ k. replay (entries_up_to (same.synced k) q.entries) (same.base k)) ∙ ap (λ (es : List Entry). replay es p.base) same.entries) is

  -- and that of the running sync's group its own
  pub syncing_view : (group : ℕ) (plan later : SyncPlan) → SameSyncing s t p q → s.line.syncing ≡ Some group → SamePlan plan later
      → IsViewOf flushed v s p group plan.root plan.header → IsViewOf flushed v t q group later.root later.header
  syncing_view group plan later same syncing planned is = view_as flushed v s t p q group group plan.root later.root plan.header later.header same.synced.kept same.synced.begun same.synced.log same.synced.grown same.synced.guid same.synced.import_is
      refl planned.root planned.header
      ((λ k. replay (entries_up_to group q.entries) (same.synced.base k)) ∙ ap (λ (es : List Entry). replay es p.base) (same.entries group syncing)) is

-- no config above a group counts, told by the same numbers
pub configs_as : (ws : List Write) (size n t c guid g top u : ℕ) → n ≡ size → c ≡ t → g ≡ guid → u ≡ top → AreConfigsUpTo size t ws guid top (λ above content. ⊥) → AreConfigsUpTo n c ws g u (λ above content. ⊥)
configs_as ws size n t c guid g top u of_size of_created of_guid of_top known =
    subst (λ (x : ℕ). AreConfigsUpTo x c ws g u (λ above content. ⊥)) (sym of_size)
    (subst (λ (x : ℕ). AreConfigsUpTo size x ws g u (λ above content. ⊥)) (sym of_created)
    (subst (λ (x : ℕ). AreConfigsUpTo size t ws x u (λ above content. ⊥)) (sym of_guid) (subst (λ (x : ℕ). AreConfigsUpTo size t ws guid x (λ above content. ⊥)) (sym of_top) known)))

-- an entry of a group is up to it
of_or_below : (g group : ℕ) → (g == group) ≡ ((g == group) && nat_le g group)
of_or_below g group = go (cases_order g group)
  where
    go : (g ≡ group) ⊎ ((g < group) ⊎ (group < g)) → (g == group) ≡ ((g == group) && nat_le g group)
    go (inl same) = eq-eqb g group same ∙ sym (rw (eq-eqb g group same) (le-leb g group (omega (arith, same))))
    go (inr (inl less)) = ne_eqb g group (λ same. omega (arith, same, less)) ∙ sym (rw (ne_eqb g group (λ same. omega (arith, same, less))) refl)
    go (inr (inr more)) = ne_eqb g group (λ same. omega (arith, same, more)) ∙ sym (rw (ne_eqb g group (λ same. omega (arith, same, more))) refl)

-- so the operations of a group are the same where the entries up to it are
group_ops : (group : ℕ) (before after : List Entry) → entries_up_to group after ≡ entries_up_to group before → ops_of_group group after ≡ ops_of_group group before
group_ops group before after same = ap (λ (es : List Entry). flat_map (λ (e : Entry). e.ops) es) (sym (of_those after) ∙ ap (λ (es : List Entry). entries_in group es) same ∙ of_those before)
  where
    of_those : (es : List Entry) → entries_in group (entries_up_to group es) ≡ entries_in group es
    of_those es = filter-filter (λ (e : Entry). e.group == group) (λ (e : Entry). nat_le e.group group) (λ (e : Entry). e.group == group) (λ e. of_or_below e.group group) es

-- the config of a running sync is that of the same sync, with the same entries up to its group
pub config_as : (size n : ℕ) (s t : Shown) (p q : Past) (group : ℕ) (content : List ℕ) → n ≡ size → t.guid ≡ s.guid → t.line.syncing ≡ s.line.syncing → q.base ≡ p.base
    → entries_up_to group q.entries ≡ entries_up_to group p.entries → IsSyncConfig size s p group content → IsSyncConfig n t q group content
config_as size n s t p q group content of_size guid line base entries c = record {
  syncing = line ∙ c.syncing;
  renamed = ap (λ (ops : List Op). list_any is_rename ops) (group_ops group p.entries q.entries entries) ∙ c.renamed;
  contents = c.contents;
  replayed = (λ k. replay (entries k) (base k)) ∙ c.replayed;
  content_is = c.content_is ∙ (λ k. config_content (sym of_size k) (sym guid k) group c.contents.name);
}

-- so it is with the label stages of the sync
pub stages_as : (o : Option LabelStages) (size n : ℕ) (s t : Shown) (p q : Past) (group : ℕ) → n ≡ size → t.guid ≡ s.guid → t.line.syncing ≡ s.line.syncing → q.base ≡ p.base
    → entries_up_to group q.entries ≡ entries_up_to group p.entries → WritesConfig o size s p group → WritesConfig o n t q group
unfolding config_as
stages_as None size n s t p q group of_size guid line base entries w = tt
stages_as (Some stages) size n s t p q group of_size guid line base entries (even, c, content) = (
  even,
  config_as size n s t p q group stages.config of_size guid line base entries c,
  subst (λ (m : ℕ). IsConfigContent stages.config m t.guid group c.contents.name) (sym of_size) (subst (λ (g : ℕ). IsConfigContent stages.config size g group c.contents.name) (sym guid) content),
)

-- no config above the synced group counts but that of the running sync
pub sync_configs_as : (ws : List Write) (size n : ℕ) (s t : Shown) (p q : Past) → n ≡ size → q.created ≡ p.created → t.guid ≡ s.guid → t.line.synced ≡ s.line.synced → t.line.syncing ≡ s.line.syncing → q.base ≡ p.base
    → ((group : ℕ) → s.line.syncing ≡ Some group → entries_up_to group q.entries ≡ entries_up_to group p.entries)
    → AreConfigsUpTo size p.created ws s.guid s.line.synced (IsSyncConfig size s p) → AreConfigsUpTo n q.created ws t.guid t.line.synced (IsSyncConfig n t q)
sync_configs_as ws size n s t p q of_size created guid synced line base entries known label group name content below some is =
    let there : HandedSince p.created ws (config_place size label) content = subst (λ (c : ℕ). HandedSince c ws (config_place size label) content) created (subst (λ (m : ℕ). HandedSince q.created ws (config_place m label) content) of_size some) in
    let same : IsConfigContent content size s.guid group name = subst (λ (g : ℕ). IsConfigContent content size g group name) guid (subst (λ (m : ℕ). IsConfigContent content m t.guid group name) of_size is) in
    elim (known label group name content below there same) as (λ _. (group ≤ t.line.synced) ⊎ IsSyncConfig n t q group content) [
      | inl low ↦ inl (omega (arith, low, synced))
      | inr c ↦ inr (config_as size n s t p q group content of_size guid line base (entries group c.syncing) c)
    ]

abbrev Same : State → State → Type 0
Same old new = SameSyncing old.shown new.shown old.past new.past

same_plan : (plan : SyncPlan) → (later : SyncPlan) × (Some plan ≡ Some later) × SamePlan plan later
same_plan plan = (plan, refl, record { root = refl; header = refl; taken = refl })

-- only the steps of the running sync are counted
counted : (plan : SyncPlan) (s : State) → s.shown.sync ≡ Some plan → Same s (steps.state_after_step plan s)
counted plan s is = record {
  synced = record { guid = refl; import_is = refl; synced = refl; root = refl; log = refl; kept = refl; begun = refl; base = refl; created = refl; acknowledged = refl; entries = refl; grown = λ i e at. at; suspended = λ off. off };
  line = refl;
  plans = λ other was. let same : plan ≡ other = Some-injective (sym is ∙ was) in (
    record plan { steps_left = plan.steps_left - 1 },
    refl,
    record { root = ap (λ (x : SyncPlan). x.root) same; header = ap (λ (x : SyncPlan). x.header) same; taken = ap (λ (x : SyncPlan). x.taken) same },
  );
  entries = λ group syncing. refl;
}

-- an entry comes, above the synced group and the one that is syncing
entered : (tx : ℕ) (a : Admission) (ops : List Op) (contents : Contents) (s : State) → AreTablesExplained s.shown s.past → MayAddEntry tx a ops contents s → Same s (steps.state_after_commit tx a.group ops contents s)
entered tx a ops contents s explained may =
    let found = found_at (λ (b : Admission). b.tx == tx) s.shown.transactions a may.found in
    let in_line : slice_get (open_transactions s.past.admissions s.past.entries s.past.aborted) found.0 ≡ Some a = subst (λ ts. slice_get ts found.0 ≡ Some a) explained.exact.groups.transactions found.1 in
    let holds = explained.exact.groups.members.holding found.0 a in_line in
    let line = explained.exact.groups.line in
    let e : Entry = record { group = a.group; tx = tx; ops = ops } in
    record {
      synced = record {
        guid = refl;
        import_is = refl;
        synced = refl;
        root = refl;
        log = refl;
        kept = refl;
        begun = refl;
        base = refl;
        created = refl;
        acknowledged = refl;
        entries = up_to_push s.shown.line.synced s.past.entries e (held_above s.shown.line a.group line holds).0;
        grown = λ i x at. at_old s.past.entries e x i at;
        suspended = λ off. off;
      };
      line = refl;
      plans = λ plan is. (plan, is, record { root = refl; header = refl; taken = refl });
      entries = λ group syncing. up_to_push group s.past.entries e (held_above_sync s.shown.line a.group group line holds syncing);
    }

-- all stays
still : (s : State) → Same s s
still s = record {
  synced = record { guid = refl; import_is = refl; synced = refl; root = refl; log = refl; kept = refl; begun = refl; base = refl; created = refl; acknowledged = refl; entries = refl; grown = λ i e at. at; suspended = λ off. off };
  line = refl;
  plans = λ plan is. (plan, is, record { root = refl; header = refl; taken = refl });
  entries = λ group syncing. refl;
}

-- a pool that is suspended then
suspended : (s t : State) → Same s t → Same s (steps.suspended_state t)
suspended s t same = record {
  synced = record {
    guid = same.synced.guid;
    import_is = same.synced.import_is;
    synced = same.synced.synced;
    root = same.synced.root;
    log = same.synced.log;
    kept = same.synced.kept;
    begun = same.synced.begun;
    base = same.synced.base;
    created = same.synced.created;
    acknowledged = same.synced.acknowledged;
    entries = same.synced.entries;
    grown = same.synced.grown;
    suspended = λ off. absurd (false≢true (sym off));
  };
  line = same.line;
  plans = same.plans;
  entries = same.entries;
}

-- where no more than that happens
pub suspended_stays : (s : State) → Same s (steps.suspended_state s)
suspended_stays s = suspended s s (still s)

-- an effect that neither starts nor ends a sync, and writes no log
effect_leaves : (e : Effect) (s : State) → is_turning e ≡ false → is_logging e ≡ false → AreTablesExplained s.shown s.past → MayHave e s → Same s (state_after e s)
effect_leaves (AddsEntry tx a ops contents) s off no_log explained may = entered tx a ops contents s explained may
effect_leaves (CountsStep plan) s off no_log explained may = counted plan s may.0
effect_leaves (PlansSync group plan) s turning no_log explained may = absurd (false≢true (sym turning))
effect_leaves (EndsSync group plan) s turning no_log explained may = absurd (false≢true (sym turning))
effect_leaves (WritesLog taken address) s off logging explained may = absurd (false≢true (sym logging))
effect_leaves FlushesLog s off logging explained may = absurd (false≢true (sym logging))
effect_leaves Suspends s off no_log explained may = suspended s s (still s)
effect_leaves e s off no_log explained may = record {
  synced = record { guid = refl; import_is = refl; synced = refl; root = refl; log = refl; kept = refl; begun = refl; base = refl; created = refl; acknowledged = refl; entries = refl; grown = λ i e at. at; suspended = λ off. off };
  line = refl;
  plans = λ plan is. (plan, is, record { root = refl; header = refl; taken = refl });
  entries = λ group syncing. refl;
}

-- Each step but the start of a sync, its end, and those of the log leaves what the views rest on.
pub step_leaves : (keeps : Type 0) (bytes : List ℕ) (s : declared_step.Step) (r : declared_reply.Reply) (old new : State) → Step keeps bytes s r old new → is_turn r ≡ false → is_log_step s ≡ false → AreTablesExplained old.shown old.past
    → SameSyncing old.shown new.shown old.past new.past
step_leaves keeps bytes s r old new h off no_log explained =
    let d : StepDoes s r old new = step_does keeps bytes s r old new h in
    let same = effect_leaves d.has.effect old (d.turns ∙ off) (d.logs no_log) explained d.has.may in
    elim (d.has.left) as (λ _. Same old new) [
      | inl is ↦ subst (Same old) (sym is) same
      | inr is ↦ subst (Same old) (sym is) (suspended old (state_after d.has.effect old) same)
    ]
