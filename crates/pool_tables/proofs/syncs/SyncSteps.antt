-- A step of a running sync, by what its device call answered.
use Rattle.std.proofs.Common.{ℕ, ◌≡◌, ◌-◌, ◌<◌, true, false, ◌++◌, refl, ap, ◌⊎◌}
use Rattle.std.specs.Prelude.{Some, None, Ok, Err}
use Rattle.std.specs.FinMap as finite
use Rattle.std.specs.FinSet as set
use Rattle.base.specs.declared.error.PoolError.{PoolError}
use Rattle.base.specs.declared.error.PoolError.TheVariants as error
use Rattle.base.specs.steps.Logs.{log_after_sync}
use Rattle.base.specs.steps.Refusals.{sync_step_refusal}
use Rattle.base.specs.steps.Shown.{Shown, SyncPlan}
use Rattle.base.specs.history.Past.{Past, ordinals_of}
use Rattle.base.specs.steps.Steps.{State, SyncStep, returned_addresses}
use Rattle.base.specs.steps.Steps.SyncProgress.{More, Synced}
use Rattle.pool_tables.specs.Meets.{Meets}

pub step_suspended : (s : Shown) → s.suspended ≡ true → Meets SyncStep (Err error.Suspended) s s
step_suspended s h = λ past. (past, rw h (refl, refl))

pub step_not_ready : (s n : Shown) → s.suspended ≡ false → s.line.syncing ≡ None → n ≡ s → Meets SyncStep (Err error.NotReady) s n
step_not_ready s n h none same = λ past.
    (past, let e : sync_step_refusal s ≡ Some error.NotReady = rw (h, none) refl in rw e (refl, ap (λ (x : Shown). let state : State = record { shown = x; past = past } in state) same))

goes_on : (s : Shown) (group : ℕ) → s.suspended ≡ false → s.line.syncing ≡ Some group → sync_step_refusal s ≡ None
goes_on s group h is = rw (h, is) refl

pub step_more : (s n : Shown) (group : ℕ) (plan : SyncPlan) → s.suspended ≡ false → s.line.syncing ≡ Some group → s.sync ≡ Some plan → 1 < plan.steps_left
    → n ≡ record s { sync = Some (record plan { steps_left = plan.steps_left - 1 }) } → Meets SyncStep (Ok More) s n
step_more s n group plan h is running left same = λ past.
    (past, rw (goes_on s group h is) (group, plan, is, running, (left, ap (λ (x : Shown). let state : State = record { shown = x; past = past } in state) same)))

pub step_failed : (s n : Shown) (group : ℕ) (e : PoolError) → s.suspended ≡ false → s.line.syncing ≡ Some group → (e ≡ error.Write) ⊎ (e ≡ error.Flush)
    → n ≡ record s { suspended = true } → Meets SyncStep (Err e) s n
step_failed s n group e h is failed same = λ past.
    (past, rw (goes_on s group h is) (failed, ap (λ (x : Shown). let state : State = record { shown = x; past = past } in state) same))

-- what is shown once a group is synced by its plan
abbrev pub shown_synced : ℕ → SyncPlan → Shown → Shown
shown_synced group plan s = record s {
  line = record s.line { synced = group; syncing = None };
  dirty = finite.remove s.dirty group;
  reserved = finite.remove s.reserved group;
  free = set.union s.free (set.from_list (returned_addresses plan s.log));
  log = log_after_sync group plan.header s.log;
  root = plan.root;
  synced_contents = plan.contents;
  lengths = plan.lengths;
  sync = None;
}

-- the last call of a sync: its group is synced
pub step_synced : (s n : Shown) (group g : ℕ) (plan : SyncPlan) → s.suspended ≡ false → s.line.syncing ≡ Some group → s.sync ≡ Some plan → plan.steps_left ≡ 1 → g ≡ group
    → n ≡ shown_synced group plan s → Meets SyncStep (Ok (Synced g)) s n
step_synced s n group g plan h is running last same_group same = λ past.
    let later : Past = record past { acknowledged = past.acknowledged ++ ordinals_of group past.entries } in
    (later, rw (goes_on s group h is) (group, plan, is, running, (last, same_group, ap (λ (x : Shown). let state : State = record { shown = x; past = later } in state) same)))
