-- The steps of a sync go down to its end, and calls one after the other make what they make together.
use Rattle.std.proofs.Common.{◌≡◌, ◌<◌, ◌-◌, ℕ, suc, Bool, true, false, ap, inl, inr, refl, sym, subst, arith}
use Rattle.std.proofs.lemmas.Bool.{false≢true}
use Rattle.std.specs.Prelude.{◌⊎◌, Err, None, Ok, Option, Result, Some, is_some, option_map}
use Rattle.std.specs.Option.{option_map_or}
use Rattle.base.specs.declared.error.PoolError.{PoolError}
use Rattle.base.specs.declared.names.Group.{Group}
use Rattle.base.specs.declared.step.Step.TheVariants as step
use Rattle.base.specs.declared.step.Reply.TheVariants as reply
use Rattle.base.specs.steps.Refusals.{sync_step_refusal}
use Rattle.base.specs.steps.Runs.{progress_reply, reply_of}
use Rattle.base.specs.steps.Shown.{Shown, SyncPlan}
use Rattle.base.specs.steps.Steps as steps
use Rattle.base.specs.steps.Steps.{State, SyncProgress}
use Rattle.base.specs.steps.Steps.SyncProgress.{More, Synced}
use Rattle.device_model.specs.declared.device.SectorDevice.{Ghosts}
use Rattle.pool_core.specs.declared.state.PoolState.{PoolState}
use Rattle.pool_core.specs.GroupSyncs.{AndThen, Call, EndsSync, If, MakesMore, SyncsClosed, SyncsOpen}
use Rattle.pool_core.specs.States.{shown}
use Rattle.pool_core.specs.Turns.{MakesStep}
use Rattle.pool_tables.specs.Told.{sync_step_reply}
use Rattle.pool_tables.specs.declared.pool.Progress.{Progress}
use Rattle.pool_tables.specs.declared.pool.Progress.TheVariants as progress
use Rattle.pool_tables.proofs.OfNoDevice.{some_past}

-- the steps that a running sync still has
abbrev pub steps_left : Shown → ℕ
steps_left s = option_map_or (λ (p : SyncPlan). p.steps_left) s.sync 0

left_of : (s : Shown) (plan : SyncPlan) → s.sync ≡ Some plan → steps_left s ≡ plan.steps_left
left_of s plan is = ap (λ (o : Option SyncPlan). option_map_or (λ (p : SyncPlan). p.steps_left) o 0) is

more_left : (answer : Result SyncProgress PoolError) (r : Option PoolError) (old new : State) (own : PoolError → Type 0) → reply.More ≡ reply_of progress_reply answer
    → steps.Answers r answer old new (λ progress. (group : ℕ) × (plan : SyncPlan) × (old.shown.line.syncing ≡ Some group) × (old.shown.sync ≡ Some plan) × steps.IsProgress group progress plan old new)
    own → steps_left new.shown < steps_left old.shown
more_left (Ok More) None old new own is (group, plan, line, sync, (more, same)) =
    let before = left_of old.shown plan sync in
    let after : steps_left new.shown ≡ plan.steps_left - 1 = ap (λ (s : State). steps_left s.shown) same in
    omega (arith, before, after, more)
more_left (Ok (Synced group)) r old new own is made = absurd (let no_way : reply.More ≡ reply.Synced (record { 0 = group }) = is in cc)
more_left (Err e) r old new own is made = absurd (let no_way : reply.More ≡ reply.Refused e = is in cc)
more_left (Ok More) (Some e) old new own is made = absurd (let no_way : Ok More ≡ Err e = made.0 in cc)

module _ {Dev : Type 0} {G : Ghosts Dev} where
  more_is_less : (old new : PoolState Dev G) → MakesStep step.SyncStep reply.More old new → steps_left (shown new) < steps_left (shown old)
  more_is_less old new made =
      let replied = (made.replied (some_past (shown old)) (λ rests. absurd (false≢true rests))).1 in
      more_left replied.0 (sync_step_refusal (shown old)) _ _ _ replied.1 replied.2

  -- where the sync goes on, fewer steps are left
  pub goes_down : {old new : PoolState Dev G} (p : Progress) → ((g : Group) → p ≡ progress.Synced g → ⊥) → MakesStep step.SyncStep (sync_step_reply (Ok p)) old new → steps_left (shown new) < steps_left (shown old)
  goes_down progress.More other made = more_is_less _ _ made
  goes_down (progress.Synced g) other made = absurd (other g refl)

  -- and one more was made
  pub one_more : {old now new : PoolState Dev G} (p : Progress) (count : ℕ) → MakesMore count old now → ((g : Group) → p ≡ progress.Synced g → ⊥) → MakesStep step.SyncStep (sync_step_reply (Ok p)) now new
      → (count : ℕ) × MakesMore count old new
  one_more {now = now} progress.More count so other made = (suc count, (now, so, made))
  one_more (progress.Synced g) count so other made = absurd (other g refl)

  -- the last one synced its group
  pub ended_by : {old now new : PoolState Dev G} {p : Progress} {g : Group} (count : ℕ) → MakesMore count old now → p ≡ progress.Synced g → MakesStep step.SyncStep (sync_step_reply (Ok p)) now new → EndsSync (Ok g) old new
  ended_by {now = now} {new = new} count so is made = record {
    count = count;
    middle = now;
    steps = so;
    last = subst (λ (q : Progress). MakesStep step.SyncStep (sync_step_reply (Ok q)) now new) is made;
  }

  -- or was refused
  pub refused_by : {old now new : PoolState Dev G} {e : PoolError} (answer : Result Group PoolError) (count : ℕ) → MakesMore count old now → answer ≡ Err e → MakesStep step.SyncStep (reply.Refused e) now new → EndsSync answer old new
  refused_by {old} {now} {new} {e} answer count so is made =
      let ends : EndsSync (Err e) old new = record { count = count; middle = now; steps = so; last = made } in
      subst (λ (a : Result Group PoolError). EndsSync a old new) (sym is) ends

  module _ {A : Type 0} (Makes : Result A PoolError → PoolState Dev G → PoolState Dev G → Type 0) where
    -- what is made if this is so
    pub if_so : (b : Bool) (answer : Result (Unit {0}) PoolError) (old new : PoolState Dev G) → b ≡ true → ((e : PoolError) × Makes (Err e) old new × (answer ≡ Err e)) ⊎ ((a : A) × Makes (Ok a) old new × (answer ≡ Ok tt))
        → If b Makes answer old new
    if_so true answer old new is made = made
    if_so false answer old new is made = absurd (false≢true is)

-- a status tells of a group exactly if there is one
pub is_there : {A B : Type 0} (f : A → B) (o : Option A) → is_some (option_map f o) ≡ true → is_some o ≡ true
is_there f (Some a) is = refl
is_there f None is = absurd (false≢true is)

module _ {Dev : Type 0} {G : Ghosts Dev} {A : Type 0} (Makes : Result A PoolError → PoolState Dev G → PoolState Dev G → Type 0) where
  -- what is made if something is so that isn't: nothing
  skipped : (b : Bool) (answer : Result (Unit {0}) PoolError) (old new : PoolState Dev G) → b ≡ false → If b Makes answer old new → (answer ≡ Ok tt) × (new ≡ old)
  skipped false answer old new is made = made
  skipped true answer old new is made = absurd (false≢true (sym is))

module _ {Dev : Type 0} {G : Ghosts Dev} (moment : ℕ) (answer : Result Group PoolError) where
  abbrev Closes : PoolState Dev G → PoolState Dev G → Type 0
  Closes old new = AndThen (Call step.CloseGroup (λ (g : Group). reply.Opened g)) (SyncsClosed moment) answer old new

  abbrev AfterFirst : PoolState Dev G → PoolState Dev G → Type 0
  AfterFirst old new = AndThen {A = Unit {0}} (λ second a b. If (is_some (shown a).line.middle) (SyncsClosed moment) second a b) (AndThen (Call step.CloseGroup (λ (g : Group). reply.Opened g)) (SyncsClosed moment)) answer old new

  closes_next : (old new : PoolState Dev G) → is_some (shown old).line.middle ≡ false → AfterFirst old new → Closes old new
  closes_next old new none (inl (e, made, is)) = absurd (let no_way : Err e ≡ Ok tt = (skipped (SyncsClosed moment) _ (Err e) old new none made).0 in cc)
  closes_next old new none (inr (a, middle, made, rest)) = subst (λ (p : PoolState Dev G). Closes p new) (skipped (SyncsClosed moment) _ (Ok a) old middle none made).1 rest

  -- a pool without a sync and without a closed group closes its open one first
  pub closes_first : (old new : PoolState Dev G) → is_some (shown old).line.syncing ≡ false → is_some (shown old).line.middle ≡ false → SyncsOpen moment answer old new → Closes old new
  closes_first old new no_sync none (inl (e, made, is)) = absurd (let no_way : Err e ≡ Ok tt = (skipped EndsSync _ (Err e) old new no_sync made).0 in cc)
  closes_first old new no_sync none (inr (a, middle, made, rest)) =
      closes_next old new none (subst (λ (p : PoolState Dev G). AfterFirst p new) (skipped EndsSync _ (Ok a) old middle no_sync made).1 rest)
