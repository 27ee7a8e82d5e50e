-- How many calls a sync has.
use Rattle.std.proofs.Common.{◌≡◌, ℕ, ◌+◌, Option, Some, None, length, refl, ◌∙◌, ap}
use Rattle.std.specs.Prelude.{is_some}
use Rattle.base.specs.disk.SyncOrder.{calls_in_order}
use Rattle.base.proofs.disk.SyncOrder.{length-calls}
use Rattle.labels.specs.declared.stage.Stage.{Stage}
use Rattle.labels.specs.declared.stage.Stage.TheVariants.{Even, Odd}
use Rattle.sync.specs.declared.run.LabelStages.{LabelStages}
use Rattle.sync.specs.CallOrder.{calls_behind_staged_blocks}
use Rattle.sync.specs.Calls.{first_labels, last_labels}
use Rattle.sync.specs.Runs.{other_calls}

pub count_calls : (count : ℕ) (stages : Option LabelStages) → length (calls_in_order count (is_some stages) (first_labels stages) (last_labels stages)) ≡ count + other_calls stages
count_calls count stages = length-calls count (is_some stages) (first_labels stages) (last_labels stages) ∙ ap (λ (n : ℕ). count + n) (by_stages stages)
  where
    by_stages : (s : Option LabelStages) → length (calls_in_order 0 (is_some s) (first_labels s) (last_labels s)) ≡ other_calls s
    by_stages None = refl
    by_stages (Some s) = by_stage s.first
      where
        by_stage : (first : Stage) → length (calls_behind_staged_blocks first) ≡ 12
        by_stage Even = refl
        by_stage Odd = refl
