-- The sync of an import leads from the view that it began on to the one that it writes: each moment of it is of one of
-- the phases, what a read gives stays fair, no config counts but that of the import, and no log block of a later chain
-- than the view's does.
use Rattle.std.proofs.Common.{◌≡◌, inl, inr, ⊎_elim, ℕ, ◌+◌, ◌<◌, ◌≤◌, List, drop, Option, Some, refl, sym, ◌∙◌, ap, subst, arith}
use Rattle.std.specs.Prelude.{◌≢◌, All, vec_len}
use Rattle.base.specs.kept.CallStages.{FixedLabels}
use Rattle.base.specs.kept.CrashRule.{IsImportMoment}
use Rattle.base.specs.kept.LogRule.{AreChainsUpTo}
use Rattle.base.specs.kept.Own.{AreConfigsBelowImport, IsAtRest, IsPhase}
use Rattle.base.specs.kept.Views.{View, AreConfigsUpTo, IsConfigContent, IsView, config_content, view_frame}
use Rattle.base.specs.disk.Disk.{Disk, EachMoment, Moment, Write, bytes_of, handed, moments}
use Rattle.base.specs.disk.Fairness.{HandsOnly, HasFairBytes}
use Rattle.base.specs.formats.Blocks.{IsBlock}
use Rattle.base.specs.formats.Fields.{number_at}
use Rattle.base.specs.formats.Geometry.{IsGeometry, block_address, config_place}
use Rattle.base.specs.formats.Labels.{Config}
use Rattle.base.specs.kept.PlacedTrees.{HoldsTree}
use Rattle.base.proofs.common.KeptLists.{All-at, All-each, none_at, take-at}
use Rattle.base.proofs.crash.CutViews.{cut_none}
use Rattle.base.proofs.crash.LogImports.{chains_of_view}
use Rattle.base.proofs.crash.NewViews.{configs_of_stage, logs_of_import}
use Rattle.base.proofs.disk.Moments.{both, joins, latest, moments_grow, starts, weaker}
use Rattle.labels.specs.Configs.{config_block}
use Rattle.labels.specs.declared.stage.Stage.{Stage}
use Rattle.tree_plans.specs.declared.planner.PlannedBlock.{PlannedBlock}
use Rattle.uberblocks.proofs.Stands.{slots_differ}
use Rattle.sync.specs.declared.run.LabelStages.{LabelStages}
use Rattle.sync.specs.declared.run.SyncRun.{SyncRun}
use Rattle.sync.specs.Made.{BlocksWritten, KeepsWritten}
use Rattle.sync.specs.Phases.{HasConfigOf, IsBefore, IsSpareBlock, IsSyncPhase, IsUnderWay, IsWrittenNext, KeepsPhases, LeadsViews, MakesTree, SyncViews}
use Rattle.sync.specs.Runs.{SameSync, call_count}
use Rattle.sync.proofs.ConfigWrites.{configs_staged}
use Rattle.sync.proofs.UnderWay.{begins_at_rest, ends_at_rest, keeps_phases}
use Rattle.import_replay.specs.ImportViews.{IsSpareFor, MayBeWritten, ViewTree, view_of}
use Rattle.import_replay.specs.LabelSyncs.{ImportWrites, IsGroupSync}
use Rattle.import_replay.proofs.LabelCalls.{block_count_is, distinct_blocks, writes_no_log}
use Rattle.import_replay.proofs.LabelSyncs.{sync_goes_on}

-- the views of the sync: so many log blocks of the old one are fixed, and the new one has none
abbrev pub views_of : (w : ImportWrites) (created flushed : ℕ) (at : FixedLabels) (v : View) (tree : ViewTree) → SyncViews
views_of w created flushed at v tree = record { created = created; fixed = at; old = v; flushed = flushed; new = view_of w tree; new_flushed = 0 }

-- what may be written spares the view
module _ (w : ImportWrites) (first : Stage) (created flushed : ℕ) (at : FixedLabels) (v : View) (tree : ViewTree) (start : Disk) (may : MayBeWritten w first created flushed at v tree start) where
  abbrev new : View
  new = view_of w tree

  abbrev views : SyncViews
  views = views_of w created flushed at v tree

  config_guid : w.config.guid ≡ w.u.guid
  config_guid = ap (λ (c : Config). c.guid) may.behind.config_is ∙ sym may.behind.guid

  config_group : w.config.group ≡ v.u.group + 4
  config_group = ap (λ (c : Config). c.group) may.behind.config_is

  config_name : w.config.name ≡ tree.contents.name
  config_name = ap (λ (c : Config). c.name) may.behind.config_is

  -- the bytes of its config are those that an import of the view writes
  config_same : config_block w.config ≡ config_content w.size v.u.guid (v.u.group + 4) tree.contents.name
  config_same = ap (λ (c : Config). config_block c) may.behind.config_is

  spare_block : (b : PlannedBlock) → IsSpareFor flushed v b → IsSpareBlock views b
  spare_block b is = record {
    not_config = is.not_config;
    not_log = is.not_log;
    not_in_tree = λ place in_range some same. is.spare.not_in_tree place in_range some (sym same);
    not_logged = λ i l below there same. is.spare.not_logged i l (take-at flushed v.logged i l below there) (sym same);
  }

  no_log_block : All (λ (b : PlannedBlock). number_at b.block 0 ≢ 6) w.blocks
  no_log_block = All-each (λ (b : PlannedBlock). number_at b.block 0 ≢ 6) w.blocks (λ i b there. (All-at (IsSpareFor flushed v) w.blocks i b may.apart there).not_log)

  -- what an import may write is of the one config that the new view has
  own_config : (group : ℕ) (content : List ℕ) → (group ≡ v.u.group + 4) × (content ≡ config_content w.size v.u.guid group tree.contents.name) → content ≡ config_block w.config
  own_config group content other = other.1 ∙ ap (λ (g : ℕ). config_content w.size v.u.guid g tree.contents.name) other.0 ∙ sym config_same

  before : IsBefore views w.size start.now
  before = record {
    rest = may.ready.rest;
    configs = configs_of_stage w.size created (handed start.now) new (v.u.group + 3) (λ group content. (group ≡ v.u.group + 4) × (content ≡ config_content w.size v.u.guid group tree.contents.name)) own_config
        (omega (arith, config_group)) (subst (λ (guid : ℕ). Known guid) (sym may.behind.guid) may.ready.configs);
    logs = logs_of_import w.size created (handed start.now) v new may.behind.guid (omega (arith, may.behind.import_number)) may.ready.rest.rest.laid.logs;
  }
    where
      Known : ℕ → Type 0
      Known guid = AreConfigsUpTo w.size created (handed start.now) guid (v.u.group + 3) (λ group content. (group ≡ v.u.group + 4) × (content ≡ config_content w.size v.u.guid group tree.contents.name))

  -- a sync of it leads from the view to the new one
  module _ (run : SyncRun) (is : IsGroupSync w first run) where
    new_view : IsView w.size new
    new_view = record {
      geometry = may.ready.rest.rest.laid.view.geometry;
      uberblock = is.is_uberblock;
      config = record {
        payload = drop 64 (config_block w.config);
        block = subst (λ (guid : ℕ). IsBlock (config_block w.config) 1 guid w.config.group 0 (drop 64 (config_block w.config))) config_guid is.is_config.sealed;
        fields = is.is_config.fields;
      };
      not_above = omega (arith, config_group, may.behind.group);
      name = sym config_name;
      root = may.behind.root;
      linked = tt;
      cut = cut_none w.u.version;
    }

    makes_tree : MakesTree (bytes_of start.now) run new
    makes_tree image same written =
        subst (λ (n : ℕ). HoldsTree image (view_frame n new) tree.pointers tree.contents.objects) (sym is.geometry)
        (may.made image same (subst (λ (n : ℕ). BlocksWritten (bytes_of start.now) w.size w.blocks n image) (block_count_is w first run is)
        (subst (λ (bs : List PlannedBlock). BlocksWritten (bytes_of start.now) w.size bs (vec_len run.blocks) image) is.blocks
        (subst (λ (n : ℕ). BlocksWritten (bytes_of start.now) n run.blocks.items (vec_len run.blocks) image) is.geometry written))))

    leads : LeadsViews (bytes_of start.now) run views
    leads = record {
      old_view = subst (λ (n : ℕ). IsView n v) (sym is.geometry) may.ready.rest.rest.laid.view;
      view = subst (λ (n : ℕ). IsView n new) (sym is.geometry) new_view;
      above = omega (arith, may.behind.group);
      slot = is.slot;
      other_slot = λ same. slots_differ v.u.group w.u.group (omega (arith, may.behind.group)) (omega (arith, may.behind.group)) (sym same);
      uberblock = is.uberblock;
      config = subst (λ (s : Option LabelStages). HasConfigOf s views) (sym is.stages) (refl, omega (arith, config_group), may.spares);
      blocks = subst (λ (bs : List PlannedBlock). All (IsSpareBlock views) bs) (sym is.blocks)
          (All-each (IsSpareBlock views) w.blocks (λ i b there. spare_block b (All-at (IsSpareFor flushed v) w.blocks i b may.apart there)));
      tree = makes_tree;
      log = (omega arith, λ i l there. absurd (none_at i l there));
    }

-- The sync has begun on a disk that is ready after the view: each moment since then is one of the import.
pub record HasImportSince (w : ImportWrites) (created flushed : ℕ) (at : FixedLabels) (v : View) (tree : ViewTree) (run : SyncRun) (start now : Disk) : Type 0 where
  pub way : IsUnderWay (bytes_of start.now) (views_of w created flushed at v tree) run now.now
  pub each : EachMoment (λ m. IsPhase w.size created flushed 0 m v (view_of w tree)) start now
  pub fair : EachMoment (HasFairBytes w.size created) start now
  pub configs : EachMoment (λ m. AreConfigsBelowImport w.size created (handed m) v tree.contents.name) start now
  pub chains : EachMoment (λ m. AreChainsUpTo w.size created (handed m) v.u.guid v.u.import_number) start now

module _ (w : ImportWrites) (first : Stage) (created flushed : ℕ) (at : FixedLabels) (v : View) (tree : ViewTree) (start : Disk) (may : MayBeWritten w first created flushed at v tree start)
    (run : SyncRun) (is : IsGroupSync w first run) where
  abbrev new_of : View
  new_of = view_of w tree

  abbrev Below : List Write → Type 0
  Below ws = AreConfigsBelowImport w.size created ws v tree.contents.name

  abbrev UpTo : List Write → Type 0
  UpTo ws = AreChainsUpTo w.size created ws v.u.guid v.u.import_number

  abbrev InPhase : Moment → Type 0
  InPhase m = IsPhase w.size created flushed 0 m v new_of

  pub import_begins : run.done ≡ 0 → HasImportSince w created flushed at v tree run start start
  import_begins none = record {
    way = begins_at_rest start.now (views_of w created flushed at v tree) run none (distinct_blocks w first run is) (leads w first created flushed at v tree start may run is)
        (subst (λ (n : ℕ). IsBefore (views_of w created flushed at v tree) n start.now) (sym is.geometry) (before w first created flushed at v tree start may))
        (subst (λ (n : ℕ). HasFairBytes n created start.now) (sym is.geometry) may.ready.bytes);
    each = starts InPhase start (inl may.ready.rest.rest);
    fair = starts (HasFairBytes w.size created) start may.ready.bytes;
    configs = starts (λ m. Below (handed m)) start may.ready.configs;
    chains = starts (λ m. UpTo (handed m)) start (chains_of_view w.size created (handed start.now) v may.ready.rest.rest.laid.logs);
  }

  -- what the sync writes at the place of a config is that of the import
  written_config : IsGeometry run.geometry → (label group : ℕ) (name content : List ℕ) → label < 4 → IsWrittenNext run (config_place w.size label) content → IsConfigContent content w.size v.u.guid group name
      → (group ≡ v.u.group + 4) × (content ≡ config_content w.size v.u.guid group tree.contents.name)
  written_config g label group name content below written told =
      let (stages, stand, same) = configs_staged run g label content below (subst (λ (n : ℕ). IsWrittenNext run (config_place n label) content) (sym is.geometry) written) in
      let given : run.stages ≡ Some (record { config = config_block w.config; first = first }) = is.stages in
      let one : stages ≡ record { config = config_block w.config; first = first } = cc in
      let bytes : content ≡ config_block w.config = same ∙ ap (λ (s : LabelStages). s.config) one in
      let config_is : w.config ≡ record { guid = v.u.guid; group = v.u.group + 4; size = w.size; name = tree.contents.name } = may.behind.config_is in
      let group_is : group ≡ v.u.group + 4 = sym told.block.group_is ∙ ap (λ (l : List ℕ). number_at l 16) bytes ∙ is.is_config.sealed.group_is ∙ ap (λ (c : Config). c.group) config_is in
      (group_is, bytes ∙ ap (λ (c : Config). config_block c) config_is ∙ ap (λ (g : ℕ). config_content w.size v.u.guid g tree.contents.name) (sym group_is))

  import_goes_on : IsGeometry run.geometry → (old new : Disk) (later : SyncRun) → SameSync run later → KeepsWritten run later old.now new.now → KeepsPhases run later old new
      → HasImportSince w created flushed at v tree run start old → HasImportSince w created flushed at v tree later start new
  import_goes_on g old new later same written kept since = record {
    way = call.1;
    each = joins InPhase start old new since.each
        (subst (λ (n : ℕ). EachMoment (λ m. IsPhase n created flushed 0 m v new_of) old new) is.geometry call.0);
    fair = joins (HasFairBytes w.size created) start old new since.fair
        (subst (λ (n : ℕ). EachMoment (HasFairBytes n created) old new) is.geometry
        (kept.fair created reached (subst (λ (n : ℕ). HasFairBytes n created old.now) (sym is.geometry) (latest (HasFairBytes w.size created) start old since.fair))));
    configs = joins (λ m. Below (handed m)) start old new since.configs
        (weaker (HandsOnly created (IsWrittenNext run) (handed old.now)) (λ m. Below (handed m)) old new (λ m hands. known m hands) (kept.hands created));
    chains = joins (λ m. UpTo (handed m)) start old new since.chains
        (weaker (HandsOnly created (IsWrittenNext run) (handed old.now)) (λ m. UpTo (handed m)) old new (λ m hands. no_later m hands) (kept.hands created));
  }
    where
      call : EachMoment (IsSyncPhase run (views_of w created flushed at v tree)) old new × IsUnderWay (bytes_of start.now) (views_of w created flushed at v tree) later new.now
      call = keeps_phases (bytes_of start.now) old new (views_of w created flushed at v tree) run later same written kept since.way

      reached : created ≤ moments old
      reached = let grown = moments_grow (HasFairBytes w.size created) start old since.fair in omega (arith, may.began, grown)

      known : (m : Moment) → HandsOnly created (IsWrittenNext run) (handed old.now) m → Below (handed m)
      known m hands label group name content below some told =
          ⊎_elim (λ now. inr (written_config g label group name content below now told)) (λ earlier. latest (λ m. Below (handed m)) start old since.configs label group name content below earlier told)
          (hands (config_place w.size label) content some)

      no_later : (m : Moment) → HandsOnly created (IsWrittenNext run) (handed old.now) m → UpTo (handed m)
      no_later m hands k chain number content block below some log =
          ⊎_elim (λ now. absurd (writes_no_log w first run is (no_log_block w first created flushed at v tree start may) v.u.guid chain number (block_address k) content block now log))
          (λ earlier. latest (λ m. UpTo (handed m)) start old since.chains k chain number content block below earlier log) (hands (block_address k) content some)

  import_moments : (now : Disk) → HasImportSince w created flushed at v tree run start now → EachMoment (IsImportMoment w.size created flushed v new_of tree.contents.name) start now
  import_moments now since =
      weaker (λ m. (HasFairBytes w.size created m × Below (handed m)) × (UpTo (handed m) × InPhase m)) (IsImportMoment w.size created flushed v new_of tree.contents.name) start now
      (λ m here. record { bytes = here.0.0; configs = here.0.1; chains = here.1.0; phase = here.1.1 })
      (both (λ m. HasFairBytes w.size created m × Below (handed m)) (λ m. UpTo (handed m) × InPhase m) start now
      (both (HasFairBytes w.size created) (λ m. Below (handed m)) start now since.fair since.configs)
      (both (λ m. UpTo (handed m)) InPhase start now since.chains since.each))

  import_ends : (now : Disk) → run.done ≡ call_count run → HasImportSince w created flushed at v tree run start now → IsAtRest w.size created 0 now.now new_of
  import_ends now all since =
      subst (λ (n : ℕ). IsAtRest n created 0 now.now new_of) is.geometry (ends_at_rest (bytes_of start.now) now.now (views_of w created flushed at v tree) run all since.way).rest.rest

-- one call more, whatever it answers
module _ (w : ImportWrites) (first : Stage) (run : SyncRun) (is : IsGroupSync w first run) (created flushed : ℕ) (at : FixedLabels) (v : View) (tree : ViewTree) (start : Disk)
    (may : MayBeWritten w first created flushed at v tree start) (g : IsGeometry w.size) (old new : Disk) (later : SyncRun) (same : SameSync run later) (written : KeepsWritten run later old.now new.now)
    (kept : KeepsPhases run later old new) (since : HasImportSince w created flushed at v tree run start old) where
  pub since_next : HasImportSince w created flushed at v tree later start new
  since_next = import_goes_on w first created flushed at v tree start may run is (subst IsGeometry (sym is.geometry) g) old new later same written kept since

  is_later : IsGroupSync w first later
  is_later = sync_goes_on w first run later same is

  -- each moment so far is one of the import
  pub moments_next : EachMoment (IsImportMoment w.size created flushed v (view_of w tree) tree.contents.name) start new
  moments_next = import_moments w first created flushed at v tree start may later is_later new since_next

  -- after the last call the disk is at rest on the view that was written
  pub rest_next : later.done ≡ call_count later → IsAtRest w.size created 0 new.now (view_of w tree)
  rest_next all = import_ends w first created flushed at v tree start may later is_later new all since_next
