-- A started sync ends with the last of its steps, and a suspended pool refuses each step.
use Rattle.std.proofs.Common.{◌≡◌, ℕ, zero, suc, ◌-◌, ◌<◌, ◌≤◌, true, false, List, [], ◌∷◌, length, map, take, replicate, refl, ap, sym, subst, ◌∙◌, arith, ◌⊎◌}
use Rattle.std.specs.Prelude.{Option, Some, None, Result, Ok, Err, All}
use Rattle.std.proofs.lemmas.Bool.{true≢false}
use Rattle.std.proofs.lemmas.List.Elements.{All-head, All-tail}
use Rattle.base.specs.declared.error.PoolError.{PoolError}
use Rattle.base.specs.declared.error.PoolError.TheVariants as error
use Rattle.base.specs.declared.step.Step as declared_step
use Rattle.base.specs.declared.step.Step.TheVariants as step
use Rattle.base.specs.declared.step.Reply.{Reply}
use Rattle.base.specs.declared.step.Reply.TheVariants as reply
use Rattle.base.specs.steps.Refusals as refusal
use Rattle.base.specs.steps.Runs.{Step, progress_reply, refusal_of_step, reply_of}
use Rattle.base.specs.steps.Shown.{SyncPlan, is_durable, status_of}
use Rattle.base.specs.steps.Steps as steps
use Rattle.base.specs.steps.Steps.{State, Answers, SyncProgress}
use Rattle.base.specs.steps.Steps.SyncProgress.{More, Synced}
use Rattle.base.specs.steps.Tables.{IsRun, GoesOn}
use Rattle.base.specs.steps.SyncEnds.{IsAnswer, is_refusal, suspended_reply, sync_replies, reply_with_left}
use Rattle.base.proofs.common.KeptLists.{Some-injective}
use Rattle.base.proofs.steps.StepEffects.{Answered, step_does}
use Rattle.base.proofs.steps.StepEffects.Answered.{tested, untested, made}

-- what no test refuses is told as ever
told_step : {A : Type 0} (make : A → Reply) (right : A) (answer : Result A PoolError) (r : Reply) (old new : State) → r ≡ reply_of make answer
    → Answers None answer old new (λ a. (a ≡ right) × (new ≡ old)) steps.Never → (new ≡ old) × (r ≡ make right)
told_step make right (Ok a) r old new told h = (h.1, told ∙ ap make h.0)
told_step make right (Err e) r old new told h = absurd h

-- where the first test refuses a step, that is the answer, and nothing changes
refused_step : (now : List ℕ) (s : declared_step.Step) (r : Reply) (old new : State) → refusal_of_step s old.shown ≡ Some error.Suspended → Step ⊥ now s r old new
    → (new ≡ old) × (r ≡ reply.Refused error.Suspended)
refused_step now s r old new first h = by (step_does ⊥ now s r old new h).answer
  where
    by : Answered s r old new → (new ≡ old) × (r ≡ reply.Refused error.Suspended)
    by (tested e told found same) = (same, told ∙ ap (λ (x : PoolError). reply.Refused x) (Some-injective (sym found ∙ first)))
    by (untested e told own loud none) = absurd (let no_way : None ≡ Some error.Suspended = sym none ∙ first in cc)
    by (made answers none) = absurd (let no_way : None ≡ Some error.Suspended = sym none ∙ first in cc)

-- the first test of each step but the three that only tell refuses it where the pool is suspended
suspended_step : (now : List ℕ) (s : declared_step.Step) (r : Reply) (old new : State) → old.shown.suspended ≡ true → Step ⊥ now s r old new
    → (new ≡ old) × (r ≡ suspended_reply old.shown s)
suspended_step now step.Name r old new is (answer, told, does) = told_step (λ name. reply.Name name) old.shown.contents.name answer r old new told does
suspended_step now step.Status r old new is (answer, told, does) = told_step (λ status. reply.Status status) (status_of old.shown) answer r old new told does
suspended_step now (step.Durable receipt) r old new is (answer, told, does) = told_step (λ durable. reply.Durable durable) (is_durable old.shown receipt.ordinal.0 receipt.group.0) answer r old new told does
suspended_step now s r old new is h = refused_step now s r old new (rw is refl) h

suspended_run : (ss : List declared_step.Step) (rs : List Reply) (s new : State) → s.shown.suspended ≡ true → IsRun ⊥ ss rs s new
    → (new ≡ s) × (rs ≡ map (suspended_reply s.shown) ss)
suspended_run [] [] s new is h = (h, refl)
suspended_run (x ∷ ss) (r ∷ rs) s new is (middle, (now, one), rest) =
    let first = suspended_step now x r s middle is one in
    let still : middle.shown.suspended ≡ true = ap (λ (t : State). t.shown.suspended) first.0 ∙ is in
    let others = suspended_run ss rs middle new still rest in
    let same : rs ≡ map (suspended_reply s.shown) ss = others.1 ∙ ap (λ (t : State). map (suspended_reply t.shown) ss) first.0 in
    (others.0 ∙ first.0, ap (λ (y : Reply). y ∷ rs) first.1 ∙ ap (λ (l : List Reply). suspended_reply s.shown x ∷ l) same)
suspended_run [] (r ∷ rs) s new is h = absurd h
suspended_run (x ∷ ss) [] s new is h = absurd h

pub suspended_pools_stay : (s new : State) → s.shown.suspended ≡ true → GoesOn s new → new ≡ s
suspended_pools_stay s new is (ss, rs, run) = (suspended_run ss rs s new is run).0

pub suspended_pools_refuse : (ss : List declared_step.Step) (rs : List Reply) (s new : State) → s.shown.suspended ≡ true → IsRun ⊥ ss rs s new
    → rs ≡ map (suspended_reply s.shown) ss
suspended_pools_refuse ss rs s new is run = (suspended_run ss rs s new is run).1

-- a sync that runs in a pool that is not suspended, with so many steps left
abbrev Runs : State → ℕ → ℕ → Type 0
Runs s group left = (plan : SyncPlan) × (s.shown.suspended ≡ false) × (s.shown.line.syncing ≡ Some group) × (s.shown.sync ≡ Some plan) × (plan.steps_left ≡ left)

more_reply : (group left : ℕ) → 0 < left → reply_with_left group left ≡ reply.More
more_reply group zero low = absurd (omega (arith, low))
more_reply group (suc left) low = refl

last_reply : (group left : ℕ) → left ≡ 0 → reply_with_left group left ≡ reply.Synced (record { 0 = group })
last_reply group zero none = refl
last_reply group (suc left) none = absurd (omega (arith, none))

-- one step of it that is not refused
module _ (group left : ℕ) (r : Reply) (old new : State) (runs : Runs old group (suc left)) where
  abbrev Goes : SyncProgress → Type 0
  Goes progress = (g : ℕ) × (p : SyncPlan) × (old.shown.line.syncing ≡ Some g) × (old.shown.sync ≡ Some p) × steps.IsProgress g progress p old new

  abbrev Fails : PoolError → Type 0
  Fails e = ((e ≡ error.Write) ⊎ (e ≡ error.Flush)) × (new ≡ steps.suspended_state old)

  by_answer : (a : Result SyncProgress PoolError) → IsAnswer r → r ≡ reply_of progress_reply a
      → Answers None a old new Goes Fails
      → (r ≡ reply_with_left group left) × (0 < left → Runs new group left)
  by_answer (Ok More) answered told (g, p, is_group, is_plan, (low, same)) =
      let count : p.steps_left ≡ suc left = ap (λ (x : SyncPlan). x.steps_left) (Some-injective (sym is_plan ∙ runs.3)) ∙ runs.4 in (
        told ∙ sym (more_reply group left (omega (arith, low, count))),
        λ _. (
          record p { steps_left = p.steps_left - 1 },
          ap (λ (s : State). s.shown.suspended) same ∙ runs.1,
          ap (λ (s : State). s.shown.line.syncing) same ∙ runs.2,
          ap (λ (s : State). s.shown.sync) same,
          omega (arith, count),
        ),
      )
  by_answer (Ok (Synced x)) answered told (g, p, is_group, is_plan, (last, is, same)) =
      let count : p.steps_left ≡ suc left = ap (λ (y : SyncPlan). y.steps_left) (Some-injective (sym is_plan ∙ runs.3)) ∙ runs.4 in
      let none : left ≡ 0 = omega (arith, last, count) in
      let at : x ≡ group = is ∙ Some-injective (sym is_group ∙ runs.2) in
      (told ∙ ap (λ (n : ℕ). reply.Synced (record { 0 = n })) at ∙ sym (last_reply group left none), λ some. absurd (omega (arith, none, some)))
  by_answer (Err e) answered told own = absurd (true≢false (ap (λ (y : Reply). is_refusal y) (sym told) ∙ answered))

  one_step : (now : List ℕ) → IsAnswer r → Step ⊥ now step.SyncStep r old new → (r ≡ reply_with_left group left) × (0 < left → Runs new group left)
  one_step now answered (answer, told, h) =
      let none : refusal.sync_step_refusal old.shown ≡ None = rw (runs.1, runs.2) refl in
      by_answer answer answered told (subst (λ (o : Option PoolError). Answers o answer old new Goes Fails) none h)

-- the replies behind the first are none, or there are steps left
behind : (rs : List Reply) (middle : State) (group left : ℕ) → length rs ≤ left → (0 < left → Runs middle group left) → (Runs middle group left → rs ≡ take (length rs) (sync_replies group left))
    → rs ≡ take (length rs) (sync_replies group left)
behind [] middle group left low runs others = refl
behind (r ∷ rs) middle group left low runs others = others (runs (omega (arith, low)))

steps_end : (rs : List Reply) (s new : State) (group left : ℕ) → Runs s group left → IsRun ⊥ (replicate (length rs) step.SyncStep) rs s new → All IsAnswer rs → length rs ≤ left
    → rs ≡ take (length rs) (sync_replies group left)
steps_end [] s new group left runs h answers low = refl
steps_end (r ∷ rs) s new group zero runs h answers low = absurd (omega (arith, low))
steps_end (r ∷ rs) s new group (suc left) runs (middle, (now, one), rest) answers low =
    let first = one_step group left r s middle runs now (All-head IsAnswer r rs answers) one in
    let fits : length rs ≤ left = omega (arith, low) in
    let others = behind rs middle group left fits first.1 (λ onward. steps_end rs middle new group left onward rest (All-tail IsAnswer r rs answers) fits) in
    ap (λ (x : Reply). x ∷ rs) first.0 ∙ ap (λ (l : List Reply). reply_with_left group left ∷ l) others

pub syncs_end_on_time : (s new : State) (group : ℕ) (plan : SyncPlan) (rs : List Reply) → s.shown.suspended ≡ false → s.shown.line.syncing ≡ Some group → s.shown.sync ≡ Some plan
    → IsRun ⊥ (replicate (length rs) step.SyncStep) rs s new → All IsAnswer rs → length rs ≤ plan.steps_left → rs ≡ take (length rs) (sync_replies group plan.steps_left)
syncs_end_on_time s new group plan rs up line runs h answers low = steps_end rs s new group plan.steps_left (plan, up, line, runs, refl) h answers low
