use Rattle.std.proofs.Common.{◌≡◌, ℕ, ◌+◌, ◌-◌, List, Option, Some, None, drop, length, map, vec_len, ap, refl, subst, sym, ◌∙◌, arith}
use Rattle.std.specs.Prelude.{IfSome, unwrap_or}
use Rattle.std.specs.Option.{option_map, option_map_or}
use Rattle.extents.specs.Tables.{name_of}
use Rattle.unsynced_extents.specs.Unsynced.{name_at}
use Rattle.extents.specs.declared.extents.Extents.{Extents}
use Rattle.std.specs.Global.{Vec}
use Rattle.std.proofs.lemmas.List.{length-map}
use Rattle.base.specs.kept.LabelConfigs.{WritesName}
use Rattle.base.specs.steps.Logs.{header_for}
use Rattle.base.specs.steps.Shown.{SyncPlan}
use Rattle.sync.specs.Runs.{call_count, other_calls}
use Rattle.tree_plans.specs.declared.planner.PlannedBlock.{PlannedBlock}
use Rattle.tree_plans.specs.Plans.{address_of}
use Rattle.tree_blocks.specs.SyncedTrees.{lengths_after}
use Rattle.labels.specs.Configs.{IsConfigBlock, config_block}
use Rattle.labels.specs.declared.stage.Stage.TheVariants.{Even}
use Rattle.sync.specs.GroupLabels.{config_for, stages_for}
use Rattle.sync.specs.declared.run.LabelStages.{LabelStages}
use Rattle.pool_tables.specs.Shows.{contents_after_oldest, new_plan, pool_shown}
use Rattle.pool_tables.specs.Told.{config_of}
use Rattle.pool_tables.proofs.pool.PoolTables.running_sync.Goals as goal

-- label stages count as the name that they write
stages-count : (guid group size : ℕ) (given : Option (List ℕ)) → other_calls (stages_for guid group size Even given) ≡ other_calls given
stages-count guid group size None = refl
stages-count guid group size (Some name) = refl

-- the config that is written has the name that the group gives
named_config : {B : Type 0} (now : B → List ℕ) (name : Option B) (guid group size : ℕ) (stages : Option LabelStages) (given : Option (List ℕ)) → option_map now name ≡ given
    → stages ≡ stages_for guid group size Even (option_map now name)
    → IfSome name (λ n. IsConfigBlock (config_block (config_for guid group size (now n))) size (config_for guid group size (now n)))
    → (before : List ℕ) → WritesName (config_of stages) size guid group before (unwrap_or given before)
named_config now None guid group size stages given is made config before =
    subst (λ (s : Option LabelStages). WritesName (config_of s) size guid group before (unwrap_or given before)) (sym made) (subst (λ (o : Option (List ℕ)). unwrap_or o before ≡ before) is refl)
named_config now (Some n) guid group size stages given is made config before =
    let block = config_block (config_for guid group size (now n)) in
    subst (λ (s : Option LabelStages). WritesName (config_of s) size guid group before (unwrap_or given before)) (sym made)
    (subst (λ (o : Option (List ℕ)). WritesName (Some block) size guid group before (unwrap_or o before)) is (record { payload = drop 64 block; block = config.sealed; fields = config.fields }))

pub returns-clause-named : goal.returns-clause-named
returns-clause-named c = λ before.
    let pool = c.args.self.now in
    named_config (λ n. n.now) c.name-name.result pool.guid c.args.group.0 pool.geometry c.new.result.stages (name_at pool.changes 0)
    (c.name-name.ensures ∙ ap (λ (o : Option Extents). option_map_or name_of o None) c.oldest.ensures) c.new.ensures.stages c.new.ensures.config before

pub returns-clause-plan : goal.returns-clause-plan
returns-clause-plan c =
    let run = c.new.result in
    let new = c.new.ensures in
    let planned = c.args.planned in
    let blocks : List PlannedBlock = planned.blocks.items in
    let steps : call_count run - run.done ≡ length (map address_of blocks) + other_calls (name_at c.args.self.now.changes 0) =
    omega (arith, ap vec_len new.blocks, ap other_calls (new.stages ∙ ap (stages_for c.args.self.now.guid c.args.group.0 c.args.self.now.geometry Even) (c.name-name.ensures ∙ ap (λ (o : Option Extents). option_map_or name_of o None) c.oldest.ensures)) ∙ stages-count c.args.self.now.guid c.args.group.0 c.args.self.now.geometry (name_at c.args.self.now.changes 0), new.done, length-map blocks address_of, planned.blocks.ok.0) in
    let taken = ap (λ (v : Vec PlannedBlock). map address_of v.items) new.blocks in
    let plan : SyncPlan = new_plan c.args.moment (name_at c.args.self.now.changes 0) (header_for c.args.group.0 (pool_shown c.args.self.now).log) (map address_of blocks) planned.freed.items planned.root (contents_after_oldest c.args.self.now) (lengths_after planned.entries c.args.self.now.synced.tree) in
    λ k. record plan { steps_left = steps k; taken = taken k; header = c.header_for-header.ensures.header k }

pub returns-clause-header : goal.returns-clause-header
returns-clause-header c = c.header_for-header.ensures.keeps c.args.self.now.groups.line.synced c.args.self.now.logged
