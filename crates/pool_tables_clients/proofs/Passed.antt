-- A step that no test refuses does what it is asked for, or is refused for a reason that its tests don't see.
use Rattle.std.proofs.Common.{◌≡◌, ◌∙◌, ◌⊎◌, ◌+◌, inl, inr, ℕ, true, false, [], refl, ap, sym, subst}
use Rattle.std.specs.Prelude.{◌≢◌, Option, Some, None, Result, Ok, Err, IfErr, IfOk, OnOk}
use Rattle.base.specs.declared.error.PoolError.{PoolError}
use Rattle.base.specs.declared.error.PoolError.TheVariants as error
use Rattle.base.specs.declared.names.Group.{Group}
use Rattle.base.specs.declared.refused.RefusedCalls.{RefusedCalls}
use Rattle.base.specs.disk.Calls.{counted}
use Rattle.base.specs.history.Past.{Past}
use Rattle.base.specs.steps.Tables.{AreTablesExplained}
use Rattle.base.specs.steps.Refusals.{close_refusal, log_flush_refusal, log_write_refusal, quiesce_refusal, quiesced_group, quiescing_group, start_refusal, sync_step_refusal}
use Rattle.base.specs.steps.Shown.{Shown, SyncPlan}
use Rattle.base.specs.steps.Steps as steps
use Rattle.base.specs.steps.Steps.{Answers, IsPlanned, IsProgress, State, SyncProgress, TakesForEach, WantsMemoryOrRead, line_after_close, line_after_quiesce, state_after_log_flush, state_after_start, suspended_state, with_line}
use Rattle.base.specs.kept.Stored.{IsHeld}
use Rattle.base.proofs.common.KeptLists.{Some-injective}
use Rattle.base.proofs.history.CommitOrder.{ok-none}
use Rattle.pool_tables.specs.Meets.{Meets}
use Rattle.pool_tables.specs.Progresses.{plain_progress}
use Rattle.pool_tables.specs.StepAnswers.{StartsSync, group_number}
use Rattle.pool_tables.specs.SyncStarts.{StartsHeldOver}
use Rattle.pool_tables.specs.Tables.{result_map}
use Rattle.pool_tables.specs.Told.{ShownPool, held_with, state_with}
use Rattle.pool_tables.specs.declared.pool.Progress.{Progress}
use Rattle.pool_tables.specs.declared.pool.Progress.TheVariants as progress
use Rattle.pool_tables.proofs.OfNoDevice.{some_past}
use Rattle.pool_tables.proofs.syncs.Starts.{IsWantOrRead}

-- whatever its answer is told as
own_refusal : {A : Type 0} (r : Option PoolError) (e : PoolError) (old new : State) (does : A → Type 0) (own : PoolError → Type 0) → r ≡ None → Answers r (Err e) old new does own → own e
own_refusal r e old new does own passes h = subst (λ (q : Option PoolError). Answers q (Err e) old new does own) passes h

-- a lack of memory, a refused read and a damage are none of the groups
never_unready : (e : PoolError) → (e ≡ error.NoMemory) ⊎ (e ≡ error.Read) ⊎ ((kind address : ℕ) × (e ≡ error.Damaged kind address) × ¬ ⊥) → e ≢ error.NotReady
never_unready e (inl no_memory) is = let no_way : error.NoMemory ≡ error.NotReady = sym no_memory ∙ is in cc
never_unready e (inr (inl read)) is = let no_way : error.Read ≡ error.NotReady = sym read ∙ is in cc
never_unready e (inr (inr (kind, address, damaged, _))) is = let no_way : error.Damaged kind address ≡ error.NotReady = sym damaged ∙ is in cc

-- What is known of each step from the shown pool before it to the one after it.
module _ (s new : Shown) where
  abbrev before : State
  before = record { shown = s; past = some_past s }

  abbrev after : Past → State
  after later = record { shown = new; past = later }

  -- the open group is closed, and the next one opens
  pub closed : (group : ℕ) (answer : Result Group PoolError) → close_refusal s ≡ None → s.line.open_group ≡ group → Meets steps.CloseGroup (result_map group_number answer) s new
      → (answer ≡ Ok (record { 0 = group + 1 })) × (new.line.middle ≡ Some (record { group = group; quiesced = false }))
  closed group answer passes begun meets = go answer (meets (some_past s)).0 (meets (some_past s)).1
    where
      Does : Past → ℕ → Type 0
      Does later g = (g ≡ s.line.open_group + 1) × (after later ≡ with_line (line_after_close s.line) before)

      go : (answer : Result Group PoolError) (later : Past) → Answers (close_refusal s) (result_map group_number answer) before (after later) (Does later) steps.Never
          → (answer ≡ Ok (record { 0 = group + 1 })) × (new.line.middle ≡ Some (record { group = group; quiesced = false }))
      go (Ok g) later h =
          let done = (ok-none (close_refusal s) g.0 before (after later) (Does later) steps.Never h).1 in
          (ap (λ n. Ok (record { 0 = n })) (done.0 ∙ ap (λ n. n + 1) begun), ap (λ (x : State). x.shown.line.middle) done.1 ∙ ap (λ n. Some (record { group = n; quiesced = false })) begun)
      go (Err e) later h = absurd (own_refusal (close_refusal s) e before (after later) (Does later) steps.Never passes h)

  -- the closed group is quiesced
  pub marked : (group : ℕ) (answer : Result Group PoolError) → quiesce_refusal s ≡ None → quiescing_group s.line ≡ Some group → Meets steps.MarkQuiesced (result_map group_number answer) s new
      → (answer ≡ Ok (record { 0 = group })) × (new.line.middle ≡ Some (record { group = group; quiesced = true }))
  marked group answer passes at meets = go answer (meets (some_past s)).0 (meets (some_past s)).1
    where
      Does : Past → ℕ → Type 0
      Does later g = (quiescing_group s.line ≡ Some g) × (after later ≡ with_line (line_after_quiesce g s.line) before)

      go : (answer : Result Group PoolError) (later : Past) → Answers (quiesce_refusal s) (result_map group_number answer) before (after later) (Does later) steps.Never
          → (answer ≡ Ok (record { 0 = group })) × (new.line.middle ≡ Some (record { group = group; quiesced = true }))
      go (Ok g) later h =
          let done = (ok-none (quiesce_refusal s) g.0 before (after later) (Does later) steps.Never h).1 in
          let same : g.0 ≡ group = Some-injective (sym done.0 ∙ at) in
          (ap (λ n. Ok (record { 0 = n })) same, ap (λ (x : State). x.shown.line.middle) done.1 ∙ ap (λ n. Some (record { group = n; quiesced = true })) same)
      go (Err e) later h = absurd (own_refusal (quiesce_refusal s) e before (after later) (Does later) steps.Never passes h)

  -- the sync of the quiesced group starts, or is refused what no test sees
  pub started : (moment group : ℕ) (answer : Result Group PoolError) → start_refusal s ≡ None → quiesced_group s.line ≡ Some group → StartsSync moment answer s new → (past : Past) → AreTablesExplained s past
      → IfOk answer (λ g. g.0 ≡ group) × IfErr answer (λ e. e ≢ error.NotReady)
  started moment group answer passes at starts past explained = go answer (starts past explained).0 (starts past explained).1
    where
      old : State
      old = record { shown = s; past = past }

      Does : Past → ℕ → Type 0
      Does later g = (plan : SyncPlan) × (quiesced_group s.line ≡ Some g) × IsPlanned old moment g plan × (⊥ → TakesForEach [] old g plan) × (after later ≡ state_after_start g plan old)

      go : (answer : Result Group PoolError) (later : Past) → Answers (start_refusal s) (result_map group_number answer) old (after later) (Does later) (WantsMemoryOrRead ⊥ old (after later))
          → IfOk answer (λ g. g.0 ≡ group) × IfErr answer (λ e. e ≢ error.NotReady)
      go (Ok g) later h =
          let done = (ok-none (start_refusal s) g.0 old (after later) (Does later) (WantsMemoryOrRead ⊥ old (after later)) h).1 in
          (Some-injective (sym done.1 ∙ at), tt)
      go (Err e) later h = (tt, never_unready e (own_refusal (start_refusal s) e old (after later) (Does later) (WantsMemoryOrRead ⊥ old (after later)) passes h).0)

  -- the running sync goes on, and syncs its group, or the device refuses its call
  pub stepped : (group : ℕ) (answer : Result Progress PoolError) → sync_step_refusal s ≡ None → s.line.syncing ≡ Some group → Meets steps.SyncStep (result_map plain_progress answer) s new
      → IfOk answer (λ p. (p ≡ progress.More) ⊎ (p ≡ progress.Synced (record { 0 = group }))) × IfErr answer (λ e. (e ≡ error.Write) ⊎ (e ≡ error.Flush))
  stepped group answer passes at meets = go answer (meets (some_past s)).0 (meets (some_past s)).1
    where
      Does : Past → SyncProgress → Type 0
      Does later p = (g : ℕ) × (plan : SyncPlan) × (s.line.syncing ≡ Some g) × (s.sync ≡ Some plan) × IsProgress g p plan before (after later)

      Own : Past → PoolError → Type 0
      Own later e = ((e ≡ error.Write) ⊎ (e ≡ error.Flush)) × (after later ≡ suspended_state before)

      told : (p : Progress) (later : Past) → Does later (plain_progress p) → (p ≡ progress.More) ⊎ (p ≡ progress.Synced (record { 0 = group }))
      told progress.More later does = inl refl
      told (progress.Synced g) later (h, plan, syncing, runs, (left, same, made)) =
          let is : g.0 ≡ group = same ∙ Some-injective (sym syncing ∙ at) in
          inr (ap (λ n. progress.Synced (record { 0 = n })) is)

      go : (answer : Result Progress PoolError) (later : Past) → Answers (sync_step_refusal s) (result_map plain_progress answer) before (after later) (Does later) (Own later)
          → IfOk answer (λ p. (p ≡ progress.More) ⊎ (p ≡ progress.Synced (record { 0 = group }))) × IfErr answer (λ e. (e ≡ error.Write) ⊎ (e ≡ error.Flush))
      go (Ok p) later h = (told p later (ok-none (sync_step_refusal s) (plain_progress p) before (after later) (Does later) (Own later) h).1, tt)
      go (Err e) later h = (tt, (own_refusal (sync_step_refusal s) e before (after later) (Does later) (Own later) passes h).0)

  -- a log block is written, or memory is wanted, or the device refuses the write
  pub wrote : (answer : Result ℕ PoolError) → log_write_refusal s ≡ None → Meets steps.LogWrite answer s new → IfErr answer (λ e. (e ≡ error.NoMemory) ⊎ (e ≡ error.Write))
  wrote (Ok count) passes meets = tt
  wrote (Err e) passes meets = elim (rw passes at (meets (some_past s)).1) as (λ _. (e ≡ error.NoMemory) ⊎ (e ≡ error.Write)) [
    | inl (memory, same) ↦ inl memory
    | inr (write, taken) ↦ inr write
  ]

  -- the log is flushed, or the device refuses that
  pub flushed : (answer : Result (Unit {0}) PoolError) → log_flush_refusal s ≡ None → Meets steps.LogFlush answer s new → IfErr answer (λ e. e ≡ error.Flush)
  flushed (Ok x) passes meets = tt
  flushed (Err e) passes meets =
      let later : State = after (meets (some_past s)).0 in
      (own_refusal {A = Unit {0}} (log_flush_refusal s) e before later (λ _. later ≡ state_after_log_flush before) (λ e. (e ≡ error.Flush) × (later ≡ suspended_state before)) passes (meets (some_past s)).1).0

-- a want that is no damage
undamaged : (e : PoolError) → IsWantOrRead (Unit {0}) e → (e ≡ error.NoMemory) ⊎ (e ≡ error.Read)
undamaged e (inl memory) = inl memory
undamaged e (inr (inl read)) = inr read
undamaged e (inr (inr (kind, address, damaged, never))) = absurd (never tt)

-- Over a device that holds the pool, the start of a sync finds no damage.
pub started_over : (t u : ShownPool) (moment : ℕ) (answer : Result Group PoolError) → start_refusal t.shown ≡ None → (past : Past) → IsHeld (held_with t past) → StartsHeldOver moment answer t u
    → IfErr answer (λ e. (e ≡ error.NoMemory) ⊎ (e ≡ error.Read))
started_over t u moment (Ok group) passes past held starts = tt
started_over t u moment (Err e) passes past held starts =
    let old : State = state_with t past in
    let later : State = state_with u (starts past held).0 in
    undamaged e (own_refusal {A = ℕ} (start_refusal t.shown) e old later _ (WantsMemoryOrRead (Unit {0}) old later) passes (starts past held).1).0

-- What is answered Ok counts no refused call.
pub ok_counts : {A : Type 0} (answer : Result A PoolError) (calls later : RefusedCalls) → later ≡ counted answer calls → OnOk answer (later ≡ calls)
ok_counts (Ok a) calls later is = is
ok_counts (Err e) calls later is = tt
