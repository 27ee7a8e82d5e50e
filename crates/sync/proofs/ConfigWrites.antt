-- What a sync writes at the place of a label's config is the config of its label stages.
use Rattle.std.proofs.Common.{◌≡◌, inl, inr, ℕ, ◌<◌, List, Some, None, sym, ◌∙◌, ap, arith}
use Rattle.base.specs.formats.Geometry.{IsGeometry, block_address, block_size, config_place, slot_place}
use Rattle.base.specs.disk.Disk.{Apart}
use Rattle.base.specs.disk.SyncOrder.{DeviceCall}
use Rattle.base.specs.disk.SyncOrder.DeviceCall.{Block, Config, Uberblock, Flush}
use Rattle.base.proofs.formats.LabelPlaces.{block-label_apart, slot-config_apart}
use Rattle.base.proofs.common.KeptLists.{mapped}
use Rattle.sync.specs.declared.run.LabelStages.{LabelStages}
use Rattle.sync.specs.declared.run.SyncRun.{SyncRun}
use Rattle.sync.specs.Calls.{Target, config_target, target_of}
use Rattle.sync.specs.Phases.{IsWrittenNext}
use Rattle.sync.proofs.Targets.{IsSound, InLabels, block_lies, call_in_labels, call_of_target, is_sound}

not_apart : (place n m : ℕ) → 0 < n → 0 < m → Apart place n place m → ⊥
not_apart place n m some other (inl before) = omega (arith, before, some)
not_apart place n m some other (inr behind) = omega (arith, behind, other)

module _ (run : SyncRun) (sound : IsSound run) (label : ℕ) (below : label < 4) where
  abbrev Staged : List ℕ → Type 0
  Staged content = (stages : LabelStages) × (run.stages ≡ Some stages) × (content ≡ stages.config)

  by_call : (call : DeviceCall) (t : Target) → InLabels call → target_of run call ≡ Some t → t.place ≡ config_place run.geometry label → Staged t.content
  by_call (Block k) t within is there =
      let (b, at, in_area, same) = block_lies run sound k t is in
      let place : block_address b.index ≡ config_place run.geometry label = ap (λ (u : Target). u.place) same ∙ there in
      let apart = block-label_apart run.geometry label (config_place run.geometry label) block_size (config_place run.geometry label) sound.geometry below (omega arith) (omega arith) (b.index, in_area, sym place) in
      absurd (not_apart (config_place run.geometry label) block_size block_size (omega arith) (omega arith) apart)
  by_call (Config other) t within is there =
      let (stages, at, same) = mapped (config_target run.geometry other) run.stages t is in
      (stages, at, ap (λ (u : Target). u.content) (sym same))
  by_call (Uberblock other) t within is there =
      let same : record { place = slot_place run.geometry other run.slot; size = 1024; content = run.uberblock } ≡ t = cc in
      let place : slot_place run.geometry other run.slot ≡ config_place run.geometry label = ap (λ (u : Target). u.place) same ∙ there in
      let apart = slot-config_apart run.geometry other run.slot label sound.geometry within sound.slot below in
      absurd (overlap (slot_place run.geometry other run.slot) (config_place run.geometry label) place apart)
    where
      overlap : (p q : ℕ) → p ≡ q → Apart p 1024 q block_size → ⊥
      overlap p q same (inl before) = omega (arith, before, same)
      overlap p q same (inr behind) = omega (arith, behind, same)
  by_call Flush t within is there = absurd (let no_way : None ≡ Some t = is in cc)

  staged : (content : List ℕ) → IsWrittenNext run (config_place run.geometry label) content → Staged content
  staged content written =
      let (call, stands, is) = call_of_target run run.done written.target written.at in
      let (stages, at, same) = by_call call written.target (call_in_labels run run.done call stands) is written.place_is in
      (stages, at, sym written.content_is ∙ same)

pub configs_staged : (run : SyncRun) → IsGeometry run.geometry → (label : ℕ) (content : List ℕ) → label < 4 → IsWrittenNext run (config_place run.geometry label) content
    → (stages : LabelStages) × (run.stages ≡ Some stages) × (content ≡ stages.config)
configs_staged run g label content below written = staged run (is_sound run g) label below content written
