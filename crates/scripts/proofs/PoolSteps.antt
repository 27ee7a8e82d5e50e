-- One more step of a sync that answers that there are more; and a finish whose last answer was that made all its steps.
use Rattle.std.proofs.Common.{ℕ, ◌≡◌, ◌+◌, suc, subst, sym, inl, inr, arith}
use Rattle.std.specs.Prelude.{◌≢◌, ◌⊎◌, ◌-◌, ◌^◌}
use Rattle.base.specs.declared.step.Step.{Step}
use Rattle.base.specs.declared.step.Step.TheVariants.{SyncStep}
use Rattle.base.specs.declared.step.Reply.{Reply}
use Rattle.base.specs.declared.step.Reply.TheVariants.{More}
use Rattle.scripts.specs.PoolSteps.{Finishes, MakesSteps}

pub one_more : {P : Type 0} (Makes : Step → Reply → P → P → Type 0) (count : ℕ) (old middle new : P) → MakesSteps Makes count old middle → Makes SyncStep More middle new
    → MakesSteps Makes (count + 1) old new
one_more Makes count old middle new so next = let e : suc count ≡ count + 1 = omega arith in subst (λ n. MakesSteps Makes n old new) e (middle, so, next)

module _ {P : Type 0} (Makes : Step → Reply → P → P → Type 0) (reply : Reply) (old new : P) where
  at_last : (count : ℕ) (middle : P) → reply ≡ More → MakesSteps Makes count old middle → (Makes SyncStep reply middle new × (reply ≢ More)) ⊎ ((count ≡ 2 ^ 64 - 1) × (new ≡ middle))
      → MakesSteps Makes (2 ^ 64 - 1) old new
  at_last count middle more steps (inl (made, other)) = absurd (other more)
  at_last count middle more steps (inr (all, same)) =
      subst (λ n. MakesSteps Makes n old new) all (subst (λ (p : P). MakesSteps Makes count old p) (sym same) steps)

  pub all_steps : Finishes Makes reply old new → reply ≡ More → MakesSteps Makes (2 ^ 64 - 1) old new
  all_steps f more = at_last f.count f.middle more f.steps f.last
