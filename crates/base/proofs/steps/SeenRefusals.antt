-- A pool of which a step was refused a write, a flush, or as suspended, is suspended from then on.
use Rattle.std.proofs.Common.{subst, ◌≡◌, ℕ, Bool, true, false, not, ◌&&◌, List, [], ◌∷◌, ◌++◌, refl, ap, sym, ◌∙◌}
use Rattle.std.specs.Prelude.{Option, Some, None, Result, Ok, Err}
use Rattle.std.specs.FinMap as finite
use Rattle.std.specs.List.{list_all}
use Rattle.std.proofs.lemmas.Bool.{and_parts, false≢true}
use Rattle.base.specs.declared.error.PoolError.{PoolError}
use Rattle.base.specs.declared.error.PoolError.TheVariants as error
use Rattle.base.specs.declared.operation.Op.{Op}
use Rattle.base.specs.declared.operation.Op.TheVariants as op
use Rattle.base.specs.declared.step.Step as declared_step
use Rattle.base.specs.declared.step.Step.TheVariants as step
use Rattle.base.specs.declared.step.Reply.TheVariants as reply
use Rattle.base.specs.history.Sequences.{and_then, in_turn}
use Rattle.base.specs.history.Contents.{Contents, apply, created, removed, changed, with_object, bytes_after_write, resize}
use Rattle.base.specs.history.History.{apply_all}
use Rattle.base.specs.steps.Shown.{Shown}
use Rattle.base.specs.steps.Refusals.{Test, first_refusal, ops_tests}
use Rattle.base.specs.steps.Steps.{State}
use Rattle.base.specs.steps.Runs.{Step, refusal_of_step, tests_of_step}
use Rattle.base.specs.steps.Tables.{GoesOn}
use Rattle.base.specs.steps.Seen.{IsMadeBetween, IsRefusedBetween}
use Rattle.base.specs.steps.SeenLaws.{is_suspending, is_untested}
use Rattle.base.proofs.steps.StepEffects.{Answered, step_does}
use Rattle.base.proofs.steps.StepEffects.Answered.{tested, untested, made}
use Rattle.base.proofs.steps.SyncEnds.{suspended_pools_stay}

-- a test that gives no refusal of a pool that is suspended from then on
abbrev is_quiet : Test → Bool
is_quiet t = not (is_suspending t.error && t.applies)

no-suspension : (ts : List Test) (e : PoolError) → list_all is_quiet ts ≡ true → first_refusal ts ≡ Some e → is_suspending e ≡ true → ⊥
no-suspension [] e quiet is suspends = absurd (let no_way : None ≡ Some e = is in cc)
no-suspension (t ∷ ts) e quiet is suspends =
    let both = and_parts (is_quiet t) (list_all is_quiet ts) quiet in
    go t.applies both.0 is (λ h. no-suspension ts e both.1 h suspends)
  where
    go : (b : Bool) → not (is_suspending t.error && b) ≡ true → first_refusal (record { applies = b; error = t.error } ∷ ts) ≡ Some e → (first_refusal ts ≡ Some e → ⊥) → ⊥
    go true quiet_one h rest =
        let same : t.error ≡ e = cc in
        false≢true (sym (ap (λ b. not (b && true)) (ap is_suspending same ∙ suspends)) ∙ quiet_one)
    go false quiet_one h rest = rest h

-- where the other tests are quiet, such a refusal is one of a suspended pool
suspended-first : (tests : Shown → List Test) (s : Shown) (e : PoolError) → list_all is_quiet (tests (record s { suspended = false })) ≡ true
    → first_refusal (tests s) ≡ Some e → is_suspending e ≡ true → s.suspended ≡ true
suspended-first tests s e quiet is suspends = go s.suspended is
  where
    go : (b : Bool) → first_refusal (tests (record s { suspended = b })) ≡ Some e → b ≡ true
    go true h = refl
    go false h = absurd (no-suspension (tests (record s { suspended = false })) e quiet h suspends)

-- operations are refused otherwise
abbrev is_quiet_result : {A : Type 0} → Result A PoolError → Bool
is_quiet_result (Ok a) = true
is_quiet_result (Err e) = not (is_suspending e)

quiet-apply : (o : Op) (c : Contents) → is_quiet_result (apply o c) ≡ true
quiet-apply (op.Create n) c = elim (finite.get c.objects n.0) as (λ o. is_quiet_result (and_then (created o) (λ x. Ok (with_object c n.0 x))) ≡ true) [ None ↦ refl | Some old ↦ refl ]
quiet-apply (op.Remove n) c = elim (finite.get c.objects n.0) as (λ o. is_quiet_result (and_then (removed o) (λ x. Ok (with_object c n.0 x))) ≡ true) [ None ↦ refl | Some old ↦ refl ]
quiet-apply (op.Write n offset bytes) c =
    elim (finite.get c.objects n.0) as (λ o. is_quiet_result (and_then (changed (bytes_after_write offset bytes) o) (λ x. Ok (with_object c n.0 x))) ≡ true) [ None ↦ refl | Some old ↦ refl ]
quiet-apply (op.SetLength n size) c =
    elim (finite.get c.objects n.0) as (λ o. is_quiet_result (and_then (changed (resize size) o) (λ x. Ok (with_object c n.0 x))) ≡ true) [ None ↦ refl | Some old ↦ refl ]
quiet-apply (op.SetName bytes) c = refl

quiet-ops : (ops : List Op) (c : Contents) → is_quiet_result (apply_all ops c) ≡ true
quiet-ops [] c = refl
quiet-ops (o ∷ ops) c = go (apply o c) (quiet-apply o c) (λ d. quiet-ops ops d)
  where
    go : (r : Result Contents PoolError) → is_quiet_result r ≡ true → ((d : Contents) → is_quiet_result (apply_all ops d) ≡ true) → is_quiet_result (and_then r (in_turn apply ops)) ≡ true
    go (Ok d) h rest = rest d
    go (Err e) h rest = h

quiet-tests : (r : Result Contents PoolError) (t : Test) → is_quiet_result r ≡ true → is_quiet t ≡ true → list_all is_quiet (ops_tests r ++ t ∷ []) ≡ true
quiet-tests (Ok c) t h quiet = rw quiet refl
quiet-tests (Err e) t h quiet = go (is_suspending e) h
  where
    go : (b : Bool) → not b ≡ true → (not (b && true) && (is_quiet t && true)) ≡ true
    go true no_way = absurd (false≢true no_way)
    go false same = rw quiet refl

-- the tests of a step are quiet while the pool is not suspended
quiet-step : (s : declared_step.Step) (t : Shown) → list_all is_quiet (tests_of_step s (record t { suspended = false })) ≡ true
quiet-step (step.Commit tx ops) t = quiet-tests (apply_all ops t.contents) _ (quiet-ops ops t.contents) refl
quiet-step _ t = refl

same-refusal : (e f : PoolError) → reply.Refused e ≡ reply.Refused f → e ≡ f
same-refusal e f is = cc

-- a step that is refused so leaves a suspended pool
step-suspends : (now : List ℕ) (s : declared_step.Step) (e : PoolError) (old new : State) → Step ⊥ now s (reply.Refused e) old new → is_suspending e ≡ true → new.shown.suspended ≡ true
step-suspends now s e old new h suspends = by (step_does ⊥ now s (reply.Refused e) old new h).answer
  where
    by : Answered s (reply.Refused e) old new → new.shown.suspended ≡ true
    by (tested f is found same) =
        ap (λ (x : State). x.shown.suspended) same ∙ suspended-first (tests_of_step s) old.shown f (quiet-step s old.shown) found (ap is_suspending (sym (same-refusal e f is)) ∙ suspends)
    by (untested f is own loud none) = loud (ap is_suspending (sym (same-refusal e f is)) ∙ suspends)
    by (made answers none) = absurd (false≢true (sym answers))

stays-suspended : (s after : State) → s.shown.suspended ≡ true → GoesOn s after → after.shown.suspended ≡ true
stays-suspended s after is onward = ap (λ (x : State). x.shown.suspended) (suspended_pools_stay s after is onward) ∙ is

pub refusals_suspend : (s : declared_step.Step) (e : PoolError) (before after : State) → IsMadeBetween ⊥ s (reply.Refused e) before after → is_suspending e ≡ true → after.shown.suspended ≡ true
refusals_suspend s e before after m suspends = stays-suspended m.new after (step-suspends m.now s e m.old m.new m.made suspends) m.no_later

pub suspensions_are_seen : (refuses : Shown → Option PoolError) (before after : State) → IsRefusedBetween refuses error.Suspended before after → after.shown.suspended ≡ true
suspensions_are_seen refuses before after r = stays-suspended r.state after (r.suspended refl) r.no_later

-- a refusal that is none of a step's own is the first of its tests, and all stands
step-tested : (now : List ℕ) (s : declared_step.Step) (e : PoolError) (old new : State) → Step ⊥ now s (reply.Refused e) old new → is_untested e ≡ false → (refusal_of_step s old.shown ≡ Some e) × (new ≡ old)
step-tested now s e old new h seen = by (step_does ⊥ now s (reply.Refused e) old new h).answer
  where
    by : Answered s (reply.Refused e) old new → (refusal_of_step s old.shown ≡ Some e) × (new ≡ old)
    by (tested f is found same) = (found ∙ ap (λ (x : PoolError). Some x) (sym (same-refusal e f is)), same)
    by (untested f is own loud none) = absurd (false≢true (sym seen ∙ ap is_untested (same-refusal e f is) ∙ own))
    by (made answers none) = absurd (false≢true (sym answers))

pub refusals_are_seen : (s : declared_step.Step) (e : PoolError) (before after : State) → IsMadeBetween ⊥ s (reply.Refused e) before after → is_untested e ≡ false
    → IsRefusedBetween (refusal_of_step s) e before after
refusals_are_seen s e before after m seen =
    let h = step-tested m.now s e m.old m.new m.made seen in
    record {
      state = m.old;
      no_earlier = m.no_earlier;
      no_later = subst (λ (x : State). GoesOn x after) h.1 m.no_later;
      explained = m.explained;
      refused = h.0;
      suspended = λ is. ap (λ (x : State). x.shown.suspended) (sym h.1) ∙ step-suspends m.now s e m.old m.new m.made (ap is_suspending is);
    }
