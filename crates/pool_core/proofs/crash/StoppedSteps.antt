-- A disk on which a crash stops a step is safe, and the pool's own.
use Rattle.std.proofs.Common.{◌≡◌, ◌∙◌, ℕ, List, [], ◌∷◌, ◌++◌, length, inl, inr, refl, ap, sym, subst, arith, length-append}
use Rattle.std.specs.List.{AllByRecursion}
use Rattle.base.specs.declared.step.Step as declared_step
use Rattle.base.specs.declared.step.Reply as declared_reply
use Rattle.base.specs.kept.CrashRule.{IsRunLeft}
use Rattle.base.specs.disk.Disk.{Disk, EachMoment, Moment, disk_size}
use Rattle.base.specs.history.Past.{Past}
use Rattle.base.specs.kept.Effects.{Effect, state_after}
use Rattle.base.specs.kept.Effects.Effect.{Stays}
use Rattle.base.specs.steps.Explains.{AreSafe}
use Rattle.base.specs.steps.Runs.{Step}
use Rattle.base.specs.steps.Steps.{State}
use Rattle.base.proofs.steps.StepEffects.{StepDoes, step_does}
use Rattle.pool_core.specs.KeptSafe.{IsKeptSafe, IsSafeStep, IsStoppedBetween, LeavesOwn, OnDisk, past_within}
use Rattle.pool_core.proofs.crash.SafeMoments.{IsSafeMoment}

-- what each moment from the one disk to the other has, a disk between them has
pub moment_in : (P : Moment → Type 0) (old ended new : Disk) → EachMoment P old new → IsStoppedBetween old ended new → P ended.now
moment_in P old ended new each stopped = go each.later stopped.rest each.each (sym each.joined ∙ stopped.joined)
  where
    go : (later rest : List Moment) → AllByRecursion P later → later ++ old.now ∷ old.past ≡ rest ++ ended.now ∷ ended.past → P ended.now
    go [] [] all same = let here : old.now ≡ ended.now = cc in subst P here each.first
    go [] (m ∷ rest) all same =
        let long = ap (λ (l : List Moment). length l) same ∙ length-append (m ∷ rest) (ended.now ∷ ended.past) in
        absurd (omega (arith, long, stopped.since))
    go (m ∷ later) [] all same = let here : m ≡ ended.now = cc in subst P here all.0
    go (m ∷ later) (n ∷ rest) all same = go later rest all.1 (let behind : later ++ old.now ∷ old.past ≡ rest ++ ended.now ∷ ended.past = cc in behind)

-- no effect of a step moves the create of its pool
created_after : (e : Effect) (s : State) → (state_after e s).past.created ≡ s.past.created
created_after Stays s = refl
created_after e s = refl

step_created : (keeps : Type 0) (bytes : List ℕ) (s : declared_step.Step) (r : declared_reply.Reply) (old new : State) → Step keeps bytes s r old new → new.past.created ≡ old.past.created
step_created keeps bytes s r old new h =
    let d : StepDoes s r old new = step_does keeps bytes s r old new h in
    elim (d.has.left) as (λ _. new.past.created ≡ old.past.created) [
      | inl is ↦ ap (λ (u : State). u.past.created) is ∙ created_after d.has.effect old
      | inr is ↦ ap (λ (u : State). u.past.created) is ∙ created_after d.has.effect old
    ]

module _ (s : declared_step.Step) (r : declared_reply.Reply) (old new : OnDisk) (ended : Disk) where
  pub stopped_safe : IsSafeStep s r old new → IsStoppedBetween old.disk ended new.disk → AreSafe ended (past_within old new)
  stopped_safe one stopped =
      let here : IsSafeMoment (disk_size old.disk) (past_within old new) ended.now = moment_in (IsSafeMoment (disk_size old.disk) (past_within old new)) old.disk ended new.disk one.were stopped in
      subst (λ (n : ℕ). IsSafeMoment n (past_within old new) ended.now) (sym here.bytes.size_is) here

  pub stopped_own : IsKeptSafe old → IsSafeStep s r old new → IsStoppedBetween old.disk ended new.disk → IsRunLeft ended (past_within old new) new.held.state.shown.guid
  stopped_own safe one stopped =
      let guid : ℕ = new.held.state.shown.guid in
      let p : Past = past_within old new in
      let here : LeavesOwn (disk_size old.disk) p guid ended.now = moment_in (LeavesOwn (disk_size old.disk) p guid) old.disk ended new.disk one.own stopped in
      let created : new.held.state.past.created ≡ old.held.state.past.created = step_created (Unit {0}) old.held.now s r old.held.state new.held.state one.step in
      record { began = omega (arith, created, safe.began, stopped.since); left = subst (λ (n : ℕ). LeavesOwn n p guid ended.now) (sym here.bytes.size_is) here }
