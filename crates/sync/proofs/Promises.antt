-- What the contract of a call of a sync says of its first calls.
use Rattle.std.proofs.Common.{◌≡◌, ℕ, true, Option, Some, Result, Ok, Err, sym, ◌∙◌, ap, subst}
use Rattle.std.specs.Prelude.{[], IfErr, OnOk, is_some, slice_get, vec_len}
use Rattle.std.specs.Option.{option_map}
use Rattle.base.specs.declared.error.PoolError.{PoolError}
use Rattle.base.specs.declared.error.PoolError.TheVariants as refusal
use Rattle.base.specs.disk.Disk.{Disk, written}
use Rattle.base.specs.disk.SyncOrder.{DeviceCall, calls_in_order}
use Rattle.base.specs.disk.SyncOrder.DeviceCall.{Block, Flush}
use Rattle.base.specs.formats.Geometry.{block_address}
use Rattle.base.proofs.disk.Regions.{flushed_clean}
use Rattle.tree_plans.specs.declared.planner.PlannedBlock.{PlannedBlock}
use Rattle.labels.specs.Stages.{labels_of}
use Rattle.labels.specs.declared.stage.Stage.{Stage}
use Rattle.labels.specs.declared.stage.Stage.TheVariants.{Even, Odd}
use Rattle.sync.specs.declared.run.LabelStages.{LabelStages}
use Rattle.sync.specs.declared.run.SyncRun.{SyncRun}
use Rattle.sync.specs.CallOrder.{stage_after}
use Rattle.sync.specs.Calls.{IsNextCall, MakesCall, MakesNextCall, block_target, first_labels, last_labels, plain_answer, refusal_of}
use Rattle.sync.proofs.Targets.{WritesTarget}

-- the call of a place in the order of a sync, if it has so many blocks
abbrev call_at : SyncRun → ℕ → ℕ → Option DeviceCall
call_at run count place = slice_get (calls_in_order count (is_some run.stages) (first_labels run.stages) (last_labels run.stages)) place

abbrev staged_call_at : Option LabelStages → ℕ → Option DeviceCall
staged_call_at stages place = slice_get (calls_in_order 0 (is_some stages) (first_labels stages) (last_labels stages)) place

is_call_at : (run : SyncRun) (call : DeviceCall) (count place : ℕ) → vec_len run.blocks ≡ count → run.done ≡ place → IsNextCall run call → call_at run count place ≡ Some call
is_call_at run call count place long done next = sym (ap (λ (n : ℕ). call_at run n place) long) ∙ sym (ap (λ (k : ℕ). call_at run (vec_len run.blocks) k) done) ∙ next

module _ (keeps : Type 0) (run : SyncRun) where
  module _ (begun : run.done ≡ 0) (two : vec_len run.blocks ≡ 2) where
    is_first : (call : DeviceCall) → IsNextCall run call → call ≡ Block 0
    is_first call next = let at : Some (Block 0) ≡ Some call = is_call_at run call 2 0 two begun next in cc

    -- the first call writes the first block
    pub first_written : {A : Type 0} (r : Result A PoolError) (old new : Disk) → MakesNextCall keeps run (plain_answer r) old new → keeps
        → OnOk r ((b : PlannedBlock) → slice_get run.blocks.items 0 ≡ Some b → new ≡ written (block_address b.index) b.block true old)
    first_written (Ok x) old new m k = λ b at.
        let made : MakesCall run (Block 0) old (Ok tt) new = subst (λ (c : DeviceCall). MakesCall run c old (Ok tt) new) (is_first m.call m.next) (m.made k) in
        subst (λ (o : Option PlannedBlock). WritesTarget (option_map block_target o) old (Ok tt) new) at made
    first_written (Err e) old new m k = tt

    pub first_refused : {A : Type 0} (r : Result A PoolError) (old new : Disk) → MakesNextCall keeps run (plain_answer r) old new → IfErr r (λ e. e ≡ refusal.Write)
    first_refused (Ok x) old new m = tt
    first_refused (Err e) old new m = m.refusal ∙ ap refusal_of (is_first m.call m.next)

  module _ (made : run.done ≡ 1) (one : vec_len run.blocks ≡ 1) where
    is_flush : (call : DeviceCall) → IsNextCall run call → call ≡ Flush
    is_flush call next = let at : Some Flush ≡ Some call = is_call_at run call 1 1 one made next in cc

    -- and the call after the only block flushes
    pub second_flushes : {A : Type 0} (r : Result A PoolError) (old new : Disk) → MakesNextCall keeps run (plain_answer r) old new → keeps → OnOk r (new.now.unflushed ≡ [])
    second_flushes (Ok x) old new m k =
        let flushed : MakesCall run Flush old (Ok tt) new = subst (λ (c : DeviceCall). MakesCall run c old (Ok tt) new) (is_flush m.call m.next) (m.made k) in
        (flushed_clean old new flushed).0
    second_flushes (Err e) old new m k = tt

    pub second_refused : {A : Type 0} (r : Result A PoolError) (old new : Disk) → MakesNextCall keeps run (plain_answer r) old new → IfErr r (λ e. e ≡ refusal.Flush)
    second_refused (Ok x) old new m = tt
    second_refused (Err e) old new m = m.refusal ∙ ap refusal_of (is_flush m.call m.next)

  module _ (made : run.done ≡ 3) (none : vec_len run.blocks ≡ 0) (stages : LabelStages) (named : run.stages ≡ Some stages) where
    is_staged_flush : (call : DeviceCall) → IsNextCall run call → call ≡ Flush
    is_staged_flush call next = by_stage stages.first (sym (ap (λ (s : Option LabelStages). staged_call_at s 3) named) ∙ is_call_at run call 0 3 none made next)
      where
        by_stage : (first : Stage) → slice_get (calls_in_order 0 true (labels_of first) (labels_of (stage_after first))) 3 ≡ Some call → call ≡ Flush
        by_stage Even at = cc
        by_stage Odd at = cc

    -- and so does the call after the configs of the first stage
    pub staged_flushes : {A : Type 0} (r : Result A PoolError) (old new : Disk) → MakesNextCall keeps run (plain_answer r) old new → keeps → OnOk r (new.now.unflushed ≡ [])
    staged_flushes (Ok x) old new m k =
        let flushed : MakesCall run Flush old (Ok tt) new = subst (λ (c : DeviceCall). MakesCall run c old (Ok tt) new) (is_staged_flush m.call m.next) (m.made k) in
        (flushed_clean old new flushed).0
    staged_flushes (Err e) old new m k = tt

    pub staged_refused : {A : Type 0} (r : Result A PoolError) (old new : Disk) → MakesNextCall keeps run (plain_answer r) old new → IfErr r (λ e. e ≡ refusal.Flush)
    staged_refused (Ok x) old new m = tt
    staged_refused (Err e) old new m = m.refusal ∙ ap refusal_of (is_staged_flush m.call m.next)
