-- After the last flush in front of the uberblocks the new view is laid: its blocks stand, and its config.
use Rattle.std.proofs.Common.{◌≡◌, ℕ, ◌+◌, ◌<◌, List, [], length, Option, Some, None, refl, sym, ◌∙◌, ap, subst, arith, vec_len}
use Rattle.std.specs.Prelude.{slice_get, is_some}
use Rattle.std.proofs.lemmas.Option.{slice_get_within}
use Rattle.base.specs.formats.Fields.{part}
use Rattle.base.specs.formats.Geometry.{block_size, config_place}
use Rattle.base.specs.disk.Disk.{Moment, bytes_of}
use Rattle.base.specs.disk.SyncOrder.{calls_in_order}
use Rattle.base.specs.disk.SyncOrder.DeviceCall.{Config}
use Rattle.base.specs.kept.CallStages.{IsLaidAt}
use Rattle.base.proofs.crash.NewViews.{view_laid}
use Rattle.labels.specs.declared.stage.Stage.{Stage}
use Rattle.labels.specs.declared.stage.Stage.TheVariants.{Even, Odd}
use Rattle.sync.specs.declared.run.LabelStages.{LabelStages}
use Rattle.sync.specs.declared.run.SyncRun.{SyncRun}
use Rattle.sync.specs.CallOrder.{calls_behind_staged_blocks}
use Rattle.sync.specs.Calls.{calls_of, config_target, first_labels, last_labels, target_of}
use Rattle.sync.specs.Made.{BlocksWritten, HasMade}
use Rattle.sync.specs.Phases.{SyncViews, LeadsViews, HasConfigOf, IsBefore, calls_before_slots, first_label, new_config_label}
use Rattle.sync.proofs.Blocks.{blocks_written, call_stands}
use Rattle.base.proofs.disk.SyncOrder.{others_stand}
use Rattle.sync.proofs.Targets.{IsSound}

-- the label that has the new view's config is one of the four
pub new_label_below : (v : SyncViews) (o : Option LabelStages) → new_config_label v o < 4
new_label_below v None = v.fixed.config_below
new_label_below v (Some stages) = by_stage stages.first
  where
    by_stage : (first : Stage) → first_label first < 4
    by_stage Even = omega arith
    by_stage Odd = omega arith

-- the first config of label stages is the second call after the blocks
first_config_at : (s : LabelStages) → slice_get (calls_in_order 0 (is_some (Some s)) (first_labels (Some s)) (last_labels (Some s))) 1 ≡ Some (Config (first_label s.first))
first_config_at s = by_stage s.first
  where
    by_stage : (first : Stage) → slice_get (calls_behind_staged_blocks first) 1 ≡ Some (Config (first_label first))
    by_stage Even = refl
    by_stage Odd = refl

module _ (base : List ℕ) (run : SyncRun) (sound : IsSound run) (v : SyncViews) (leads : LeadsViews base run v) (m : Moment) (before : IsBefore v run.geometry m) (made : HasMade base run (bytes_of m)) (last : run.done + 1 ≡ calls_before_slots run) where
  all_blocks : BlocksWritten base run.geometry run.blocks.items (vec_len run.blocks) (bytes_of m)
  all_blocks =
      let written = blocks_written base (bytes_of m) run sound made in
      record {
        each = λ k b below at. written.each k b (omega (arith, below, last)) at;
        others = λ i from to out. written.others i from to (λ k b below at here. out k b (omega (arith, slice_get_within run.blocks.items k b at, run.blocks.ok.0)) at here);
      }

  -- the config of the new view stands in its label
  config_stands : (o : Option LabelStages) → run.stages ≡ o → part (bytes_of m) (config_place run.geometry (new_config_label v run.stages)) (length v.new.config) ≡ v.new.config
  config_stands None is =
      let same : v.new.config ≡ v.old.config = subst (λ (s : Option LabelStages). HasConfigOf s v) is leads.config in
      let label : new_config_label v run.stages ≡ v.fixed.config = ap (λ (s : Option LabelStages). new_config_label v s) is in
      ap (λ (l : ℕ). part (bytes_of m) (config_place run.geometry l) (length v.new.config)) label
      ∙ ap (λ (c : List ℕ). part (bytes_of m) (config_place run.geometry v.fixed.config) (length c)) same ∙ before.rest.config.stands ∙ sym same
  config_stands (Some s) is =
      let config = subst (λ (o : Option LabelStages). HasConfigOf o v) is leads.config in
      let label : new_config_label v run.stages ≡ first_label s.first = ap (λ (o : Option LabelStages). new_config_label v o) is in
      let long : length v.new.config ≡ block_size = leads.view.config.block.size in
      let count : calls_before_slots run ≡ vec_len run.blocks + 4 = rw is (omega arith) in
      let stands : slice_get (calls_of run) (vec_len run.blocks + 1) ≡ Some (Config (first_label s.first)) =
      others_stand (vec_len run.blocks) (is_some run.stages) (first_labels run.stages) (last_labels run.stages) (vec_len run.blocks + 1) 1 refl
      ∙ ap (λ (o : Option LabelStages). slice_get (calls_in_order 0 (is_some o) (first_labels o) (last_labels o)) 1) is ∙ first_config_at s in
      let target : target_of run (Config (first_label s.first)) ≡ Some (config_target run.geometry (first_label s.first) s) = rw is refl in
      let there = call_stands base (bytes_of m) run (vec_len run.blocks + 1) (Config (first_label s.first)) (config_target run.geometry (first_label s.first) s) made (omega (arith, last, count)) stands target in
      ap (λ (l : ℕ). part (bytes_of m) (config_place run.geometry l) (length v.new.config)) label
      ∙ ap (λ (n : ℕ). part (bytes_of m) (config_place run.geometry (first_label s.first)) n) long ∙ there ∙ config.0

  pub new_view_laid : m.unflushed ≡ [] → IsLaidAt run.geometry v.created v.new_flushed (new_config_label v run.stages) v.new m
  new_view_laid none =
      view_laid run.geometry v.created v.new_flushed (new_config_label v run.stages) v.new m none before.rest.rest.laid.firm.size_is leads.view (new_label_below v run.stages) (config_stands run.stages refl)
      (leads.tree (bytes_of m) made.size all_blocks) leads.log.0
      (λ i l below at. let here = leads.log.1 i l at in (before.rest.rest.laid.firm.log.1 here.0 l (here.2 below) here.1).stands) before.configs before.logs
