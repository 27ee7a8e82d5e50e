-- What a sync has made of the block area.
use Rattle.std.proofs.Common.{◌≡◌, inl, inr, ℕ, zero, suc, ◌+◌, ◌-◌, ◌*◌, ◌<◌, ◌≤◌, List, [], Option, Some, None, Ok, refl, sym, ◌∙◌, ap, subst, arith, vec_len}
use Rattle.std.specs.Prelude.{slice_get, is_some}
use Rattle.std.specs.Option.{option_map}
use Rattle.std.specs.List.{AllByRecursion}
use Rattle.std.proofs.lemmas.Bool.{cases_lt}
use Rattle.std.proofs.lemmas.Option.{slice_get_within}
use Rattle.base.specs.formats.Fields.{part}
use Rattle.base.specs.disk.Disk.{Disk, IsInRange}
use Rattle.base.specs.formats.Geometry.{IsGeometry, block_area, block_count, block_size}
use Rattle.base.specs.disk.SyncOrder.{DeviceCall, calls_in_order}
use Rattle.base.specs.disk.SyncOrder.DeviceCall.{Block, Config, Uberblock, Flush}
use Rattle.base.proofs.disk.Regions.{flushed_clean}
use Rattle.base.proofs.formats.Geometry.{blocks-end, IsGeometry-IsSize}
use Rattle.labels.specs.declared.stage.Stage.{Stage}
use Rattle.labels.specs.declared.stage.Stage.TheVariants.{Even, Odd}
use Rattle.tree_plans.specs.declared.planner.PlannedBlock.{PlannedBlock}
use Rattle.sync.specs.declared.run.LabelStages.{LabelStages}
use Rattle.sync.specs.declared.run.SyncRun.{SyncRun}
use Rattle.sync.specs.CallOrder.{calls_behind_blocks, calls_behind_staged_blocks}
use Rattle.sync.specs.Runs.{call_count, other_calls}
use Rattle.sync.specs.Calls.{Target, block_target, target_of, calls_of, first_labels, last_labels, IsNextCall, MakesCall}
use Rattle.sync.specs.Made.{BlocksWritten, IsTarget, targets_of, HasMade}
use Rattle.base.proofs.disk.SyncOrder.{block_stands, others_stand}
use Rattle.sync.proofs.Targets.{IsSound, InLabels, LiesIn, each-at, call_in_labels, call_of_target, target_of_call, config_lies, uberblock_lies, block_lies}

-- before its first call a sync has made nothing
pub nothing_made : (base : List ℕ) (run : SyncRun) → run.done ≡ 0 → HasMade base run base
nothing_made base run none = record {
  size = refl;
  each = λ k t below at. absurd (omega (arith, below, none));
  others = λ i out. refl;
}

-- what a call that was made wrote stands
pub call_stands : (base image : List ℕ) (run : SyncRun) (k : ℕ) (call : DeviceCall) (t : Target) → HasMade base run image → k < run.done → slice_get (calls_of run) k ≡ Some call → target_of run call ≡ Some t
    → part image t.place t.size ≡ t.content
call_stands base image run k call t made below at is = made.each k t below (target_of_call run k call at ∙ ap (λ (o : Option Target). Some o) is)

-- a call that writes no block
abbrev IsNoBlock : DeviceCall → Type 0
IsNoBlock (Block k) = ⊥
IsNoBlock (Config label) = Unit {0}
IsNoBlock (Uberblock label) = Unit {0}
IsNoBlock Flush = Unit {0}

no_block_behind : (stages : Option LabelStages) → AllByRecursion IsNoBlock (calls_in_order 0 (is_some stages) (first_labels stages) (last_labels stages))
no_block_behind None = (tt, (tt, (tt, (tt, (tt, (tt, tt))))))
no_block_behind (Some stages) = by_stage stages.first
  where
    by_stage : (first : Stage) → AllByRecursion IsNoBlock (calls_behind_staged_blocks first)
    by_stage Even = (tt, (tt, (tt, (tt, (tt, (tt, (tt, (tt, (tt, (tt, (tt, (tt, tt))))))))))))
    by_stage Odd = (tt, (tt, (tt, (tt, (tt, (tt, (tt, (tt, (tt, (tt, (tt, (tt, tt))))))))))))

-- the k-th block is written by the k-th call
block_place : (run : SyncRun) (k j : ℕ) → slice_get (calls_of run) k ≡ Some (Block j) → j ≡ k
block_place run k j at = elim (cases_lt k (vec_len run.blocks)) [
  | inl before ↦
      let stands : slice_get (calls_of run) k ≡ Some (Block k) = block_stands (vec_len run.blocks) (is_some run.stages) (first_labels run.stages) (last_labels run.stages) k before in
      let same : Block j ≡ Block k = cc in
      cc
  | inr behind ↦
      absurd (each-at IsNoBlock (calls_in_order 0 (is_some run.stages) (first_labels run.stages) (last_labels run.stages)) (k - vec_len run.blocks) (Block j) (no_block_behind run.stages)
      (sym (others_stand (vec_len run.blocks) (is_some run.stages) (first_labels run.stages) (last_labels run.stages) k (k - vec_len run.blocks) (omega (arith, behind))) ∙ at))
]

-- no byte of the block area lies in a label
area_apart : (size label i : ℕ) → IsGeometry size → label < 4 → block_area ≤ i → i < block_area + block_size * block_count size → (t : Target) → LiesIn size label t → IsInRange t.place t.size i → ⊥
area_apart size zero i g within from to t lies here = omega (arith, lies.to, from, here.1)
area_apart size (suc zero) i g within from to t lies here = omega (arith, lies.to, from, here.1)
area_apart size (suc (suc zero)) i g within from to t lies here = omega (arith, lies.from, blocks-end size g, to, here.0)
area_apart size (suc (suc (suc label))) i g within from to t lies here = let s = IsGeometry-IsSize size g in omega (arith, lies.from, blocks-end size g, to, here.0, s.least)

-- a target with a byte of the block area is that of a block
target_in_area : (run : SyncRun) → IsSound run → (k i : ℕ) (t : Target) → IsTarget (targets_of run) k t → block_area ≤ i → i < block_area + block_size * block_count run.geometry → IsInRange t.place t.size i
    → (b : PlannedBlock) × (slice_get run.blocks.items k ≡ Some b) × (block_target b ≡ t)
target_in_area run sound k i t at from to here =
    let (call, stands, is) = call_of_target run k t at in
    by_call call stands is (call_in_labels run k call stands)
  where
    by_call : (call : DeviceCall) → slice_get (calls_of run) k ≡ Some call → target_of run call ≡ Some t → InLabels call → (b : PlannedBlock) × (slice_get run.blocks.items k ≡ Some b) × (block_target b ≡ t)
    by_call (Block j) stands is within =
        let (b, at_b, below, same) = block_lies run sound j t is in
        (b, ap (λ (n : ℕ). slice_get run.blocks.items n) (sym (block_place run k j stands)) ∙ at_b, same)
    by_call (Config label) stands is within = absurd (area_apart run.geometry label i sound.geometry within from to t (config_lies run label t is).0 here)
    by_call (Uberblock label) stands is within = absurd (area_apart run.geometry label i sound.geometry within from to t (uberblock_lies run sound label t is).0 here)
    by_call Flush stands is within = absurd (let no_way : None ≡ Some t = is in cc)

-- the target of the k-th block
block_is_target : (run : SyncRun) (k : ℕ) (b : PlannedBlock) → slice_get run.blocks.items k ≡ Some b → IsTarget (targets_of run) k (block_target b)
block_is_target run k b at =
    let below : k < vec_len run.blocks = omega (arith, slice_get_within run.blocks.items k b at, run.blocks.ok.0) in
    target_of_call run k (Block k) (block_stands (vec_len run.blocks) (is_some run.stages) (first_labels run.stages) (last_labels run.stages) k below)
    ∙ ap (λ (o : Option PlannedBlock). Some (option_map block_target o)) at

-- the block area has the blocks that were written, and elsewhere the base's bytes
pub blocks_written : (base image : List ℕ) (run : SyncRun) → IsSound run → HasMade base run image → BlocksWritten base run.geometry run.blocks.items run.done image
blocks_written base image run sound made = record {
  each = λ k b below at. made.each k (block_target b) below (block_is_target run k b at);
  others = λ i from to out. made.others i (λ k t below at here.
      let (b, at_b, same) = target_in_area run sound k i t at from to here in
      out k b below at_b (subst (λ (u : Target). IsInRange u.place u.size i) (sym same) here));
}

-- after a flush that answers Ok nothing is unflushed
pub flush_cleans : (run : SyncRun) (before after : Disk) → MakesCall run Flush before (Ok tt) after → after.now.unflushed ≡ []
flush_cleans run before after makes = (flushed_clean before after makes).0

last_behind : (stages : Option LabelStages) (p : ℕ) → p + 1 ≡ other_calls stages → slice_get (calls_in_order 0 (is_some stages) (first_labels stages) (last_labels stages)) p ≡ Some Flush
last_behind None p last = let here : p ≡ 5 = omega (arith, last) in subst (λ (n : ℕ). slice_get calls_behind_blocks n ≡ Some Flush) (sym here) refl
last_behind (Some stages) p last =
    let here : p ≡ 11 = omega (arith, last) in
    subst (λ (n : ℕ). slice_get (calls_behind_staged_blocks stages.first) n ≡ Some Flush) (sym here) (by_stage stages.first)
  where
    by_stage : (first : Stage) → slice_get (calls_behind_staged_blocks first) 11 ≡ Some Flush
    by_stage Even = refl
    by_stage Odd = refl

-- the last call is a flush
pub last_stands : (run : SyncRun) (k : ℕ) → k + 1 ≡ call_count run → slice_get (calls_of run) k ≡ Some Flush
last_stands run k last =
    let some : 6 ≤ other_calls run.stages = at_least run.stages in
    others_stand (vec_len run.blocks) (is_some run.stages) (first_labels run.stages) (last_labels run.stages) k (k - vec_len run.blocks) (omega (arith, last, some))
    ∙ last_behind run.stages (k - vec_len run.blocks) (omega (arith, last, some))
  where
    at_least : (stages : Option LabelStages) → 6 ≤ other_calls stages
    at_least None = omega arith
    at_least (Some stages) = omega arith

-- after the last call nothing is unflushed
pub last_cleans : (run : SyncRun) (call : DeviceCall) (before after : Disk) → run.done + 1 ≡ call_count run → IsNextCall run call → MakesCall run call before (Ok tt) after → after.now.unflushed ≡ []
last_cleans run call before after last at makes =
    let stands : slice_get (calls_of run) run.done ≡ Some Flush = last_stands run run.done last in
    let same : call ≡ Flush = cc in
    flush_cleans run before after (subst (λ (d : DeviceCall). MakesCall run d before (Ok tt) after) same makes)
