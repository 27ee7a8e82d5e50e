-- The past after a step is told by the step, its reply and the state before, and it only grows.
use Rattle.std.proofs.Common.{◌≡◌, ℕ, true, List, [], ◌∷◌, ◌++◌, refl, ap, sym, subst, ◌∙◌, inl, inr, append_assoc}
use Rattle.std.specs.Prelude.{◌==◌}
use Rattle.std.proofs.lemmas.Bool.{or_left}
use Rattle.std.proofs.lemmas.List.{append-nil}
use Rattle.std.proofs.lemmas.List.Folds.{list_any-append}
use Rattle.base.specs.declared.step.Step as declared_step
use Rattle.base.specs.declared.step.Reply as declared_reply
use Rattle.base.specs.steps.Locks.{is_in}
use Rattle.base.specs.history.Past.{Past, Grows, IsPrefixOf}
use Rattle.base.specs.steps.Additions.{past_after}
use Rattle.base.specs.steps.Steps.{State, state_after_abort, state_after_charged_admission, state_after_commit, state_after_grant, state_after_log_flush, state_after_sync, state_after_unlock}
use Rattle.base.specs.kept.Effects.{Effect, HasEffect, state_after}
use Rattle.base.specs.kept.Effects.Effect.{AddsGrant, LetsGo, AddsAdmission, AddsEntry, EndsAdmission, EndsSync, FlushesLog}
use Rattle.base.specs.steps.Runs.{Step}
use Rattle.base.specs.steps.Tables.{IsRun}
use Rattle.base.proofs.steps.StepEffects.{step_does}

pub told_past : (keeps : Type 0) (now : List ℕ) (s : declared_step.Step) (r : declared_reply.Reply) (old new : State) → Step keeps now s r old new → new.past ≡ past_after s r old
told_past keeps now s r old new h = (step_does keeps now s r old new h).past

-- a list begins with itself, and with what a front of it begins with
same-prefix : {A : Type 0} (xs : List A) → IsPrefixOf xs xs
same-prefix xs = ([], sym (append-nil xs))

longer-prefix : {A : Type 0} (xs ys zs : List A) → IsPrefixOf xs ys → IsPrefixOf ys zs → IsPrefixOf xs zs
longer-prefix xs ys zs (more, one) (rest, two) = (more ++ rest, two ∙ ap (λ l. l ++ rest) one ∙ append_assoc xs more rest)

-- a past with longer lists
grows-to : (p q : Past) → IsPrefixOf p.entries q.entries → IsPrefixOf p.grants q.grants → IsPrefixOf p.let_go q.let_go → IsPrefixOf p.admissions q.admissions → IsPrefixOf p.aborted q.aborted
    → ((o : ℕ) → is_in o p.acknowledged ≡ true → is_in o q.acknowledged ≡ true) → Grows p (record q { base = p.base; created = p.created; dirty_max = p.dirty_max })
grows-to p q entries grants let_go admissions aborted acknowledged = record {
  base = refl;
  created = refl;
  dirty_max = refl;
  entries = entries;
  grants = grants;
  let_go = let_go;
  admissions = admissions;
  aborted = aborted;
  acknowledged = acknowledged;
}

grows-same : (p : Past) → Grows p p
grows-same p = grows-to p p (same-prefix _) (same-prefix _) (same-prefix _) (same-prefix _) (same-prefix _) (λ o h. h)

grows-onward : (p q r : Past) → Grows p q → Grows q r → Grows p r
grows-onward p q r x y = record {
  base = y.base ∙ x.base;
  created = y.created ∙ x.created;
  dirty_max = y.dirty_max ∙ x.dirty_max;
  entries = longer-prefix p.entries q.entries r.entries x.entries y.entries;
  grants = longer-prefix p.grants q.grants r.grants x.grants y.grants;
  let_go = longer-prefix p.let_go q.let_go r.let_go x.let_go y.let_go;
  admissions = longer-prefix p.admissions q.admissions r.admissions x.admissions y.admissions;
  aborted = longer-prefix p.aborted q.aborted r.aborted x.aborted y.aborted;
  acknowledged = λ o h. y.acknowledged o (x.acknowledged o h);
}

-- more is acknowledged, and what was stays so
still-in : (o : ℕ) (xs more : List ℕ) → is_in o xs ≡ true → is_in o (xs ++ more) ≡ true
still-in o xs more h = list_any-append (λ y. o == y) xs more ∙ or_left (is_in o xs) (is_in o more) h

effect-grows : (e : Effect) (s : State) → Grows s.past (state_after e s).past
effect-grows (AddsGrant g) s = grows-to s.past (state_after_grant g s).past (same-prefix _) (_, refl) (same-prefix _) (same-prefix _) (same-prefix _) (λ o h. h)
effect-grows (LetsGo owner id) s = grows-to s.past (state_after_unlock id s).past (same-prefix _) (same-prefix _) (_, refl) (same-prefix _) (same-prefix _) (λ o h. h)
effect-grows (AddsAdmission a) s = grows-to s.past (state_after_charged_admission a s).past (same-prefix _) (same-prefix _) (same-prefix _) (_, refl) (same-prefix _) (λ o h. h)
effect-grows (AddsEntry tx a ops contents) s =
    grows-to s.past (state_after_commit tx a.group ops contents s).past (_, refl) (same-prefix _) (same-prefix _) (same-prefix _) (same-prefix _) (λ o h. h)
effect-grows (EndsAdmission tx a) s = grows-to s.past (state_after_abort tx a s).past (same-prefix _) (same-prefix _) (same-prefix _) (same-prefix _) (_, refl) (λ o h. h)
effect-grows (EndsSync group plan) s =
    grows-to s.past (state_after_sync group plan s).past (same-prefix _) (same-prefix _) (same-prefix _) (same-prefix _) (same-prefix _) (λ o h. still-in o s.past.acknowledged _ h)
effect-grows FlushesLog s = grows-to s.past (state_after_log_flush s).past (same-prefix _) (same-prefix _) (same-prefix _) (same-prefix _) (same-prefix _) (λ o h. still-in o s.past.acknowledged _ h)
effect-grows _ s = grows-same s.past

has-grows : (old new : State) → HasEffect old new → Grows old.past new.past
has-grows old new has = elim (has.left) as (λ _. Grows old.past new.past) [
  | inl is ↦ subst (λ (x : State). Grows old.past x.past) (sym is) (effect-grows has.effect old)
  | inr is ↦ subst (λ (x : State). Grows old.past x.past) (sym is) (effect-grows has.effect old)
]

pub step_grows : (keeps : Type 0) (now : List ℕ) (s : declared_step.Step) (r : declared_reply.Reply) (old new : State) → Step keeps now s r old new → Grows old.past new.past
step_grows keeps now s r old new h = has-grows old new (step_does keeps now s r old new h).has

pub runs_grow : (ss : List declared_step.Step) (rs : List declared_reply.Reply) (old new : State) → IsRun ⊥ ss rs old new → Grows old.past new.past
runs_grow [] [] old new same = subst (λ (x : State). Grows old.past x.past) (sym same) (grows-same old.past)
runs_grow (s ∷ ss) (r ∷ rs) old new (middle, (now, one), rest) =
    grows-onward old.past middle.past new.past
    (step_grows ⊥ now s r old middle one)
    (runs_grow ss rs middle new rest)
runs_grow [] (r ∷ rs) old new h = absurd h
runs_grow (s ∷ ss) [] old new h = absurd h
