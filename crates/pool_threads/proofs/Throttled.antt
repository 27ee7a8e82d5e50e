-- When a begin that was throttled is not tried again.
use Rattle.std.proofs.Common.{◌≡◌, ◌||◌, Bool, true, false, inl, inr, refl, List}
use Rattle.std.specs.Prelude.{◌⊎◌, IfErr, Result, Ok, Err, is_none, nat_lt}
use Rattle.std.proofs.lemmas.Bool.{and_parts, ltb-true}
use Rattle.base.specs.declared.error.PoolError.{PoolError}
use Rattle.base.specs.declared.error.PoolError.TheVariants.{Throttled}
use Rattle.base.specs.declared.names.Owner.{Owner}
use Rattle.base.specs.declared.operation.Shape.{Shape}
use Rattle.base.specs.history.Plans.{charge_of}
use Rattle.base.specs.steps.Refusals.{first_refusal}
use Rattle.base.specs.steps.Seen.{IsThrottledForGood}
use Rattle.base.specs.steps.Steps.{State}
use Rattle.pool_tables.specs.BeginTests.{is_above_limit, plan_tests}
use Rattle.pool_threads.specs.Vain.{IsThrottledInVain}
use Rattle.transactions.specs.Open.{has_one_open}

above_for_good : (plan : List Shape) (s : State) → is_above_limit plan s.shown ≡ true → IsThrottledForGood plan s
above_for_good plan s is =
    ltb-true s.shown.dirty_max (charge_of plan) (and_parts (is_none (first_refusal (plan_tests plan))) (nat_lt s.shown.dirty_max (charge_of plan)) is).1

-- one of two tests holds
pub either : (above one : Bool) → above || one ≡ true → (above ≡ true) ⊎ (one ≡ true)
either true one is = inl refl
either false one is = inr is

pub ends_for_good : {A : Type 0} (owner : Owner) (plan : List Shape) (s : State) (answer : Result A PoolError) → IfErr answer (λ e. e ≡ Throttled → IsThrottledInVain owner plan s.shown)
    → IfErr answer (λ e. e ≡ Throttled → IsThrottledForGood plan s ⊎ (has_one_open owner.0 s.shown.transactions ≡ true))
ends_for_good owner plan s (Ok a) vain = tt
ends_for_good owner plan s (Err e) vain = λ throttled. by (either (is_above_limit plan s.shown) (has_one_open owner.0 s.shown.transactions) (vain throttled))
  where
    by : (is_above_limit plan s.shown ≡ true) ⊎ (has_one_open owner.0 s.shown.transactions ≡ true) → IsThrottledForGood plan s ⊎ (has_one_open owner.0 s.shown.transactions ≡ true)
    by (inl above) = inl (above_for_good plan s above)
    by (inr one) = inr one
