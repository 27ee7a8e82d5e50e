-- The start of a sync, on each device and over the bytes of one that keeps the disk model.
use Rattle.std.specs.Prelude.{ℕ, ◌≡◌, List, [], map, Some, Result, Ok, IfOk}
use Rattle.base.specs.declared.error.PoolError.{PoolError}
use Rattle.base.specs.declared.names.Group.{Group}
use Rattle.base.specs.history.Contents.{Contents}
use Rattle.base.specs.history.History.{entries_up_to, replay}
use Rattle.base.specs.history.Past.{Past}
use Rattle.base.specs.steps.Shown.{SyncPlan}
use Rattle.base.specs.steps.Steps.{StartSync, ops_of_group}
use Rattle.base.specs.kept.Stored.{IsHeld, NewTree}
use Rattle.base.specs.tree.Places.{Place, has_block}
use Rattle.base.specs.tree.Syncs.{written_places}
use Rattle.pool_tables.specs.Told.{Leads, ShownPool, held_with, start_reply, state_with}
use Rattle.pool_tables.specs.StepAnswers.{StartsSync}
use Rattle.pool_tables.specs.Tables.{result_map}

-- The blocks that a started sync of a group takes are those that its tree has at the places that it writes, one for
-- each, in their order.
pub record TakesInOrder (group : ℕ) (past : Past) (old new : ShownPool) : Type 0 where
  pub synced : Contents
  pub replayed : replay (entries_up_to old.shown.line.synced past.entries) past.base ≡ Ok synced
  pub tree : NewTree
  pub running : new.running ≡ Some tree
  pub plan : SyncPlan
  pub plan_is : new.shown.sync ≡ Some plan
  pub each : map (λ (place : Place). (tree.pointers place).address) (written_places (ops_of_group group past.entries) synced (has_block old.now old.shown.root)) ≡ plan.taken

-- From each past with which the device holds what it should, it is a step of the definitions, over a device that keeps
-- the disk model.
abbrev pub StartsHeldOver : ℕ → Result Group PoolError → ShownPool → ShownPool → Type 0
StartsHeldOver moment answer old new = (past : Past) → IsHeld (held_with old past)
    → (later : Past) × StartSync (Unit {0}) old.now moment (result_map (λ group. group.0) answer) (state_with old past) (state_with new later)

-- The start of a sync, from what is told of a pool before it to what is told after it: on each device a step of the
-- definitions. If the device keeps the disk model and has these bytes, it moves no byte, and plans what the running
-- sync makes. If that device holds what it should, the step is one over such a device, and takes blocks in the order of
-- the places that it writes.
pub record IsSyncStart (keeps : Type 0) (now : List ℕ) (moment : ℕ) (answer : Result Group PoolError) (old new : List ℕ → ShownPool) : Type 0 where
  pub step : StartsSync moment answer (old []).shown (new []).shown
  pub held : keeps → StartsHeldOver moment answer (old now) (new now)
  pub order : keeps → (past : Past) → IsHeld (held_with (old now) past) → IfOk answer (λ group. TakesInOrder group.0 past (old now) (new now))
  pub leads : keeps → Leads (start_reply answer) (old now) (new now)
