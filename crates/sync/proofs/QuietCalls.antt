-- What a sync writes is what its place in the order asks: before its uberblocks and after them writes that leave a view
-- as it lies, between them the uberblock of the new view.
use Rattle.std.proofs.Common.{◌≡◌, inl, inr, ℕ, ◌+◌, ◌<◌, ◌≤◌, List, length, Option, Some, None, sym, ◌∙◌, ap, subst, arith}
use Rattle.std.specs.Prelude.{◌≢◌, slice_get}
use Rattle.base.specs.formats.Fields.{number_at}
use Rattle.base.specs.formats.Geometry.{block_address, block_count, block_size, config_place, slot_place, slot_of}
use Rattle.base.specs.formats.Uberblocks.{slot_size}
use Rattle.base.specs.kept.PlacedTrees.{ArePlaced}
use Rattle.base.specs.disk.Disk.{Apart}
use Rattle.base.specs.disk.SyncOrder.{DeviceCall}
use Rattle.base.specs.disk.SyncOrder.DeviceCall.{Block, Config, Uberblock, Flush}
use Rattle.base.specs.kept.Views.{IsView}
use Rattle.base.specs.kept.Spares.{IsTreeContent, IsOtherConfig}
use Rattle.base.specs.disk.DiskCalls.DiskCall.{Put}
use Rattle.base.specs.kept.CallStages.{FixedLabels, SparesAt, IsQuiet, IsSlotCall}
use Rattle.base.proofs.common.KeptLists.{All-at, mapped}
use Rattle.base.proofs.formats.Geometry.{slot-below}
use Rattle.base.proofs.formats.LabelPlaces.{slot-config_apart}
use Rattle.sync.specs.declared.run.LabelStages.{LabelStages}
use Rattle.sync.specs.declared.run.SyncRun.{SyncRun}
use Rattle.sync.specs.Calls.{Target, config_target, target_of, first_labels}
use Rattle.sync.specs.Phases.{SyncViews, LeadsViews, HasConfigOf, IsSpareBlock, new_config_label}
use Rattle.sync.proofs.CallTurns.{IsFrontCall, IsBackCall, IsOtherLabel}
use Rattle.sync.proofs.PhaseSteps.{IsNewContent}
use Rattle.sync.proofs.SparedPlaces.{block_spares, config_spares, slot_spares, slot_blocks, label_tree, label_log}
use Rattle.sync.proofs.Targets.{IsSound, block_lies}

module _ (base : List ℕ) (run : SyncRun) (sound : IsSound run) (v : SyncViews) (leads : LeadsViews base run v) where
  -- the configs of label stages are the new view's
  stage_config : (o : Option LabelStages) (stages : LabelStages) → o ≡ Some stages → HasConfigOf o v → HasConfigOf (Some stages) v
  stage_config o stages is has = subst (λ (p : Option LabelStages). HasConfigOf p v) is has

  config_kind : (content : List ℕ) → content ≡ v.new.config → number_at content 0 ≡ 1
  config_kind content same = ap (λ (l : List ℕ). number_at l 0) same ∙ leads.view.config.block.kind_is

  config_long : (content : List ℕ) → content ≡ v.new.config → length content ≡ block_size
  config_long content same = ap (λ (l : List ℕ). length l) same ∙ leads.view.config.block.size

  -- a write before the uberblocks
  pub front_quiet : IsView run.geometry v.old → ArePlaced (block_count run.geometry) v.old.pointers → (call : DeviceCall) (t : Target) → IsFrontCall run.stages call → target_of run call ≡ Some t → length t.content ≡ t.size → t.place + t.size ≤ run.geometry
      → IsQuiet run.geometry v.flushed v.fixed v.old (Put t.place t.content) × IsNewContent run.geometry t.content v.new
  front_quiet old_view old_placed (Block k) t within is long fits =
      let (b, at, below, same) = block_lies run sound k t is in
      let spare : IsSpareBlock v b = All-at (IsSpareBlock v) run.blocks.items k b leads.blocks at in
      let place : t.place ≡ block_address b.index = ap (λ (u : Target). u.place) (sym same) in
      let size : t.size ≡ block_size = ap (λ (u : Target). u.size) (sym same) in
      let content : t.content ≡ b.block = ap (λ (u : Target). u.content) (sym same) in
      let tree : IsTreeContent t.content = record {
        long = long ∙ size;
        not_config = λ one. spare.not_config (ap (λ (l : List ℕ). number_at l 0) (sym content) ∙ one);
        not_log = λ six. spare.not_log (ap (λ (l : List ℕ). number_at l 0) (sym content) ∙ six);
      } in
      let there : SparesAt run.geometry v.flushed v.fixed v.old (block_address b.index) block_size =
      block_spares run.geometry sound.geometry v.flushed v.fixed v.old old_view old_placed b.index below (omega (arith, fits, place, size)) spare.not_in_tree spare.not_logged in
      ((inl tree, spares t (sym place) (long ∙ size) there), inl tree)
    where
      spares : (u : Target) {p : ℕ} → p ≡ u.place → length u.content ≡ block_size → SparesAt run.geometry v.flushed v.fixed v.old p block_size → SparesAt run.geometry v.flushed v.fixed v.old u.place (length u.content)
      spares u at n there = subst (λ (m : ℕ). SparesAt run.geometry v.flushed v.fixed v.old u.place m) (sym n) (subst (λ (q : ℕ). SparesAt run.geometry v.flushed v.fixed v.old q block_size) at there)
  front_quiet old_view old_placed (Config label) t within is long fits =
      let (stages, at, same) = mapped (config_target run.geometry label) run.stages t is in
      let config = stage_config run.stages stages at leads.config in
      let label_at : slice_get (first_labels (Some stages)) (within.1).0 ≡ Some label = ap (λ (o : Option LabelStages). slice_get (first_labels o) (within.1).0) (sym at) ∙ (within.1).1 in
      let place : config_place run.geometry label ≡ t.place = ap (λ (u : Target). u.place) same in
      let content : t.content ≡ v.new.config = ap (λ (u : Target). u.content) (sym same) ∙ config.0 in
      let group : number_at t.content 16 ≡ v.new.config_group = ap (λ (l : List ℕ). number_at l 16) content ∙ leads.view.config.block.group_is in
      let other : IsOtherConfig run.geometry t.content v.old = (config_long t.content content, config_kind t.content content, inl (omega (arith, group, config.1))) in
      let there : SparesAt run.geometry v.flushed v.fixed v.old (config_place run.geometry label) block_size =
      config_spares run.geometry sound.geometry v.flushed v.fixed v.old old_view old_placed label within.0 (config.2 (within.1).0 label label_at) in (
        (
          inr other,
          subst (λ (m : ℕ). SparesAt run.geometry v.flushed v.fixed v.old t.place m) (sym (config_long t.content content))
              (subst (λ (q : ℕ). SparesAt run.geometry v.flushed v.fixed v.old q block_size) place there),
        ),
        inr (content, config_kind t.content content),
      )
  front_quiet old_view old_placed (Uberblock label) t within is long fits = absurd within
  front_quiet old_view old_placed Flush t within is long fits = absurd (let no_way : None ≡ Some t = is in cc)

  module _ (new_placed : ArePlaced (block_count run.geometry) v.new.pointers) where
    -- the labels that a config of the last stage is not in
    other_label : (label : ℕ) → (o : Option LabelStages) → IsOtherLabel o label → label ≢ new_config_label v o
    other_label label None is = absurd is
    other_label label (Some stages) is = is

    -- a write after the uberblocks
    pub back_quiet : (call : DeviceCall) (t : Target) → IsBackCall run.stages call → target_of run call ≡ Some t → (labels : FixedLabels) → labels.config ≡ new_config_label v run.stages
        → IsQuiet run.geometry v.new_flushed labels v.new (Put t.place t.content)
    back_quiet (Block k) t within is labels fixed = absurd within
    back_quiet (Config label) t within is labels fixed =
        let (stages, at, same) = mapped (config_target run.geometry label) run.stages t is in
        let config = stage_config run.stages stages at leads.config in
        let place : config_place run.geometry label ≡ t.place = ap (λ (u : Target). u.place) same in
        let content : t.content ≡ v.new.config = ap (λ (u : Target). u.content) (sym same) ∙ config.0 in
        let other : IsOtherConfig run.geometry t.content v.new = (config_long t.content content, config_kind t.content content, inr content) in
        let there : SparesAt run.geometry v.new_flushed labels v.new (config_place run.geometry label) block_size =
        config_spares run.geometry sound.geometry v.new_flushed labels v.new leads.view new_placed label within.0 (λ equal. other_label label run.stages within.1 (equal ∙ fixed)) in (
          inr other,
          subst (λ (m : ℕ). SparesAt run.geometry v.new_flushed labels v.new t.place m) (sym (config_long t.content content))
              (subst (λ (q : ℕ). SparesAt run.geometry v.new_flushed labels v.new q block_size) place there),
        )
    back_quiet (Uberblock label) t within is labels fixed = absurd within
    back_quiet Flush t within is labels fixed = absurd (let no_way : None ≡ Some t = is in cc)

    -- a write of the uberblock
    pub slot_spared : IsView run.geometry v.old → ArePlaced (block_count run.geometry) v.old.pointers → (label config : ℕ) → label < 4 → config < 4 → IsSlotCall run.geometry v.flushed v.new_flushed config v.fixed v.old v.new (slot_place run.geometry label (slot_of v.new.u.group)) run.uberblock
    slot_spared old_view old_placed label config below config_below =
        let size = run.geometry in
        let slot : ℕ = slot_of v.new.u.group in
        let long : length run.uberblock ≡ slot_size = ap (λ (l : List ℕ). length l) leads.uberblock ∙ leads.view.uberblock.size in
        let short : length v.new.config ≡ block_size = leads.view.config.block.size in
        let blocks = slot_blocks size sound.geometry v.new_flushed v.fixed v.new leads.view new_placed label slot below (slot-below v.new.u.group) in
        record {
          content_is = leads.uberblock;
          old_spared = subst (λ (n : ℕ). SparesAt size v.flushed v.fixed v.old (slot_place size label slot) n) (sym long)
              (slot_spares size sound.geometry v.flushed v.fixed v.old old_view old_placed label slot below (slot-below v.new.u.group) (λ same. leads.other_slot (sym same)));
          new_config_spared = subst (λ (n : ℕ). Apart (slot_place size label slot) n (config_place size config) (length v.new.config)) (sym long)
              (subst (λ (n : ℕ). Apart (slot_place size label slot) slot_size (config_place size config) n) (sym short) (slot-config_apart size label slot config sound.geometry below (slot-below v.new.u.group) config_below));
          new_tree_spared = λ p in_range some. subst (λ (n : ℕ). Apart (slot_place size label slot) n (v.new.pointers p).address block_size) (sym long)
              (label_tree size sound.geometry v.new_flushed v.fixed v.new leads.view new_placed (slot_place size label slot) slot_size blocks p in_range some);
          new_log_spared = λ i l flushed at. subst (λ (n : ℕ). Apart (slot_place size label slot) n l.block.address (length l.content)) (sym long)
              (label_log size sound.geometry v.new_flushed v.fixed v.new leads.view new_placed (slot_place size label slot) slot_size blocks i l flushed at);
        }
