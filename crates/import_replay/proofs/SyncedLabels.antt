-- What the sync of an import leaves in the labels and in the block area, once all its calls are made.
use Rattle.std.proofs.Common.{◌≡◌, ◌≢◌, ◌⊎◌, inl, inr, ℕ, zero, suc, ◌+◌, ◌<◌, ◌≤◌, Bool, true, false, List, length, Option, Some, None, refl, sym, ◌∙◌, ap, subst, arith}
use Rattle.std.specs.Prelude.{slice_get}
use Rattle.std.specs.Option.{option_map}
use Rattle.std.proofs.lemmas.Bool.{cases_order}
use Rattle.std.proofs.lemmas.Option.{slice_get_within}
use Rattle.base.specs.disk.Disk.{IsInRange}
use Rattle.base.specs.formats.Fields.{part}
use Rattle.base.specs.formats.Geometry.{IsGeometry, block_address, block_count, config_place, label_place, slot_of, slot_place}
use Rattle.base.specs.formats.Labels.{even_labels, odd_labels}
use Rattle.base.specs.disk.SyncOrder.{DeviceCall, import_calls}
use Rattle.base.specs.disk.SyncOrder.DeviceCall.{Block, Config as ConfigCall, Uberblock as UberblockCall, Flush}
use Rattle.base.specs.formats.Uberblocks.{IsUberblock}
use Rattle.base.proofs.disk.Put.{part_same}
use Rattle.labels.specs.Configs.{IsConfigBlock, config_block}
use Rattle.labels.specs.declared.stage.Stage.{Stage}
use Rattle.labels.specs.declared.stage.Stage.TheVariants.{Even, Odd}
use Rattle.base.proofs.formats.Geometry.{IsGeometry-IsSize, blocks-end, labels-apart, slot-below}
use Rattle.tree_plans.specs.declared.planner.PlannedBlock.{PlannedBlock}
use Rattle.sync.specs.declared.run.LabelStages.{LabelStages}
use Rattle.sync.specs.declared.run.SyncRun.{SyncRun}
use Rattle.sync.specs.Calls.{Target, calls_of, config_target, target_of}
use Rattle.sync.specs.Made.{BlocksWritten, HasMade, IsTarget, targets_of}
use Rattle.sync.specs.Runs.{call_count, other_calls}
use Rattle.sync.proofs.Blocks.{blocks_written, call_stands}
use Rattle.base.proofs.disk.SyncOrder.{others_stand}
use Rattle.sync.proofs.Targets.{InLabels, LiesIn, block_lies, call_in_labels, call_of_target, config_lies, is_sound}
use Rattle.import_replay.specs.Labelled.{HoldConfig, HoldLabels, HoldUberblock, HasOtherSlots}
use Rattle.import_replay.specs.LabelSyncs.{ImportWrites, IsGroupSync, is_even}
use Rattle.import_replay.proofs.LabelCalls.{block_count_is, calls_are}

-- where the write of a label's config stands among the calls
config_call : (first : Stage) (label : ℕ) → label < 4 → (k : ℕ) × (k < 12) × (slice_get (import_calls 0 (is_even first)) k ≡ Some (ConfigCall label))
config_call Even zero low = (1, omega arith, refl)
config_call Even (suc zero) low = (9, omega arith, refl)
config_call Even (suc (suc zero)) low = (2, omega arith, refl)
config_call Even (suc (suc (suc zero))) low = (10, omega arith, refl)
config_call Even (suc (suc (suc (suc k)))) low = absurd (omega (arith, low))
config_call Odd zero low = (9, omega arith, refl)
config_call Odd (suc zero) low = (1, omega arith, refl)
config_call Odd (suc (suc zero)) low = (10, omega arith, refl)
config_call Odd (suc (suc (suc zero))) low = (2, omega arith, refl)
config_call Odd (suc (suc (suc (suc k)))) low = absurd (omega (arith, low))

-- and that of its uberblock
uberblock_call : (first : Stage) (label : ℕ) → label < 4 → (k : ℕ) × (k < 12) × (slice_get (import_calls 0 (is_even first)) k ≡ Some (UberblockCall label))
uberblock_call Even zero low = (4, omega arith, refl)
uberblock_call Even (suc zero) low = (5, omega arith, refl)
uberblock_call Even (suc (suc zero)) low = (6, omega arith, refl)
uberblock_call Even (suc (suc (suc zero))) low = (7, omega arith, refl)
uberblock_call Even (suc (suc (suc (suc k)))) low = absurd (omega (arith, low))
uberblock_call Odd zero low = (4, omega arith, refl)
uberblock_call Odd (suc zero) low = (5, omega arith, refl)
uberblock_call Odd (suc (suc zero)) low = (6, omega arith, refl)
uberblock_call Odd (suc (suc (suc zero))) low = (7, omega arith, refl)
uberblock_call Odd (suc (suc (suc (suc k)))) low = absurd (omega (arith, low))

-- the calls after the blocks are those of an import without blocks
behind_blocks : (count : ℕ) (even : Bool) (k : ℕ) → slice_get (import_calls count even) (count + k) ≡ slice_get (import_calls 0 even) k
behind_blocks count true k = others_stand count true even_labels odd_labels (count + k) k refl
behind_blocks count false k = others_stand count true odd_labels even_labels (count + k) k refl

-- no byte of a block lies in a label
not_in_label : (size label index i : ℕ) → IsGeometry size → label < 4 → index < block_count size → block_address index ≤ i → i < block_address index + 4096
    → label_place size label ≤ i → i < label_place size label + 262144 → ⊥
not_in_label size zero index i geometry low below from to label_from label_to = omega (arith, from, label_to)
not_in_label size (suc zero) index i geometry low below from to label_from label_to = omega (arith, from, label_to)
not_in_label size (suc (suc zero)) index i geometry low below from to label_from label_to = let end = blocks-end size geometry in omega (arith, end, below, to, label_from)
not_in_label size (suc (suc (suc k))) index i geometry low below from to label_from label_to =
    let end = blocks-end size geometry in let least = (IsGeometry-IsSize size geometry).least in omega (arith, end, least, below, to, label_from)

-- the place of a label's part, where another label has another
parts_differ : (size k l : ℕ) → IsGeometry size → k < 4 → l < 4 → (k ≡ l → ⊥) → (i : ℕ) → label_place size k ≤ i → i < label_place size k + 262144 → label_place size l ≤ i → i < label_place size l + 262144 → ⊥
parts_differ size k l geometry k_low l_low not i from to from_other to_other = go (cases_order k l)
  where
    go : (k ≡ l) ⊎ ((k < l) ⊎ (l < k)) → ⊥
    go (inl same) = not same
    go (inr (inl less)) = let apart = labels-apart size k l geometry less l_low in omega (arith, apart, to, from_other)
    go (inr (inr more)) = let apart = labels-apart size l k geometry more k_low in omega (arith, apart, from, to_other)

module _ (w : ImportWrites) (first : Stage) (run : SyncRun) (is : IsGroupSync w first run) (base image : List ℕ) (made : HasMade base run image) (all : run.done ≡ call_count run) where
  all_done : length w.blocks + 12 ≤ run.done
  all_done = let count = ap (λ (s : Option LabelStages). other_calls s) is.stages in omega (arith, all, count, block_count_is w first run is)

  call_at : (k : ℕ) (c : DeviceCall) → slice_get (import_calls 0 (is_even first)) k ≡ Some c → slice_get (calls_of run) (length w.blocks + k) ≡ Some c
  call_at k c at = ap (λ (l : List DeviceCall). slice_get l (length w.blocks + k)) (calls_are w first run is) ∙ behind_blocks (length w.blocks) (is_even first) k ∙ at

  -- each label holds the config
  hold_config : HoldConfig w.size 4 w.config image
  hold_config label low =
      let (k, below, at) = config_call first label low in
      let t : Target = record { place = config_place run.geometry label; size = 4096; content = config_block w.config } in
      let target : target_of run (ConfigCall label) ≡ Some t = ap (λ (s : Option LabelStages). option_map (config_target run.geometry label) s) is.stages in
      let stands = call_stands base image run (length w.blocks + k) (ConfigCall label) t made (omega (arith, below, all_done)) (call_at k (ConfigCall label) at) target in
      subst (λ (l : List ℕ). IsConfigBlock l w.size w.config) (sym (ap (λ n. part image (config_place n label) 4096) (sym is.geometry) ∙ stands)) is.is_config

  -- and the uberblock
  hold_uberblock : HoldUberblock w.size 4 w.u image
  hold_uberblock label low =
      let (k, below, at) = uberblock_call first label low in
      let t : Target = record { place = slot_place run.geometry label run.slot; size = 1024; content = run.uberblock } in
      let stands = call_stands base image run (length w.blocks + k) (UberblockCall label) t made (omega (arith, below, all_done)) (call_at k (UberblockCall label) at) refl in
      subst (λ (l : List ℕ). IsUberblock l w.u)
      (sym (ap (λ n. part image (slot_place n label (slot_of w.u.group)) 1024) (sym is.geometry)
      ∙ ap (λ n. part image (slot_place run.geometry label n) 1024) (sym is.slot) ∙ stands ∙ is.uberblock))
      is.is_uberblock

  pub hold_labels : HoldLabels w.size w.config w.u image
  hold_labels = (hold_config, hold_uberblock)

  module _ (geometry : IsGeometry w.size) where
    -- no call writes a byte of another slot
    not_written : (label slot i : ℕ) → label < 4 → slot < 128 → slot ≢ slot_of w.u.group → slot_place w.size label slot ≤ i → i < slot_place w.size label slot + 1024
        → (k : ℕ) (t : Target) → IsTarget (targets_of run) k t → IsInRange t.place t.size i → ⊥
    not_written label slot i low slot_low other from to k t at here =
        let (c, stands, target) = call_of_target run k t at in
        by_call c (call_in_labels run k c stands) target
      where
        by_call : (c : DeviceCall) → InLabels c → target_of run c ≡ Some t → ⊥
        by_call (Block j) within target =
            let (b, stands, below, same) = block_lies run (is_sound run (subst IsGeometry (sym is.geometry) geometry)) j t target in
            let lies : IsInRange (block_address b.index) 4096 i = subst (λ (x : Target). IsInRange x.place x.size i) (sym same) here in
            not_in_label w.size label b.index i geometry low (subst (λ n. b.index < block_count n) is.geometry below) lies.0 lies.1 (omega (arith, from)) (omega (arith, to, slot_low))
        by_call (ConfigCall l) within target = elim (cases_order label l) [
          | inl same ↦ (let place : label_place w.size label ≡ label_place w.size l = ap (label_place w.size) same in omega (arith, place, lies.1, here.1, from))
          | inr differ ↦ parts_differ w.size label l geometry low within (λ same. omega (arith, same, differ)) i (omega (arith, from)) (omega (arith, to, slot_low)) (omega (arith, lies.0.from, here.0)) (omega (arith, lies.0.to, here.1))
        ]
          where
            lies : LiesIn w.size l t × (t.place + t.size ≤ label_place w.size l + 131072)
            lies = subst (λ n. LiesIn n l t × (t.place + t.size ≤ label_place n l + 131072)) is.geometry (config_lies run l t target)
        by_call (UberblockCall l) within target = elim (cases_order label l) [
          | inl same ↦ slots_apart (ap (label_place w.size) same) (cases_order slot (slot_of w.u.group))
          | inr differ ↦ parts_differ w.size label l geometry low within (λ same. omega (arith, same, differ)) i (omega (arith, from)) (omega (arith, to, slot_low)) (omega (arith, written.0)) (omega (arith, written.1, slot-below w.u.group))
        ]
          where
            written : IsInRange (slot_place w.size l (slot_of w.u.group)) 1024 i
            written =
                let same : record { place = slot_place run.geometry l run.slot; size = 1024; content = run.uberblock } ≡ t = cc in
                subst (λ n. IsInRange (slot_place w.size l n) 1024 i) is.slot
                (subst (λ n. IsInRange (slot_place n l run.slot) 1024 i) is.geometry (subst (λ (x : Target). IsInRange x.place x.size i) (sym same) here))

            slots_apart : label_place w.size label ≡ label_place w.size l → (slot ≡ slot_of w.u.group) ⊎ ((slot < slot_of w.u.group) ⊎ (slot_of w.u.group < slot)) → ⊥
            slots_apart place (inl same) = other same
            slots_apart place (inr (inl less)) = let start = written.0 in omega (arith, place, less, start, to)
            slots_apart place (inr (inr more)) = let end = written.1 in omega (arith, place, more, end, from)
        by_call Flush within target = let none : None ≡ Some t = target in cc

    pub other_slots : HasOtherSlots w.size w.u.group base image
    other_slots label slot low slot_low other =
        part_same image base (slot_place w.size label slot) 1024 made.size
        (λ i from to. made.others i (λ k t below at here. not_written label slot i low slot_low other from to k t at here))

    -- the blocks stand, and all others are as before
    pub all_blocks_written : BlocksWritten base w.size w.blocks (length w.blocks) image
    all_blocks_written =
        let so_far : BlocksWritten base w.size w.blocks run.done image =
        subst (λ (bs : List PlannedBlock). BlocksWritten base w.size bs run.done image) is.blocks
        (subst (λ (n : ℕ). BlocksWritten base n run.blocks.items run.done image) is.geometry (blocks_written base image run (is_sound run (subst IsGeometry (sym is.geometry) geometry)) made)) in
        record {
          each = λ k b below at. so_far.each k b (omega (arith, below, all_done)) at;
          others = λ i from to out. so_far.others i from to (λ k b early at here. out k b (slice_get_within w.blocks k b at) at here);
        }
