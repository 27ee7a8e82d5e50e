-- When a transaction is made again and when it is not, as it is seen after its turn.
use Rattle.std.proofs.Common.{◌≡◌, List, ap, subst, sym, ◌∙◌}
use Rattle.std.specs.Prelude.{IfErr, IfNone, IfSome, IsErrAnd, None, Option, Result, Ok, Err, Some}
use Rattle.base.specs.declared.error.PoolError.{PoolError}
use Rattle.base.specs.declared.names.Owner.{Owner}
use Rattle.base.specs.declared.names.Receipt.{Receipt}
use Rattle.base.specs.declared.operation.Op.{Op}
use Rattle.base.specs.declared.operation.Shape.{Shape}
use Rattle.base.specs.declared.range.ObjectRange.{ObjectRange}
use Rattle.base.specs.steps.Shown.{Shown}
use Rattle.base.specs.steps.Steps.{State}
use Rattle.device_model.specs.declared.device.SectorDevice.{Ghosts}
use Rattle.pool_core.specs.declared.state.PoolState.{PoolState}
use Rattle.pool_core.specs.States.{shown}
use Rattle.pool_threads.specs.Transacts.{IsForGood, IsRetried, MayPass}
use Rattle.pool_threads.specs.Views.{Explains, SeenPool, viewed_state}

-- the operations that come back with such an answer
pub back_to_pass : (ops : List Op) (May : Type 0) (o : Option (List Op)) → IfSome o (λ back. back ≡ ops) → May → IfSome o (λ back. (back ≡ ops) × May)
back_to_pass ops May (Some back) same may = (same, may)
back_to_pass ops May None same may = tt

-- or none do
pub nothing_back : (ops : List Op) (May : Type 0) (o : Option (List Op)) → o ≡ None → IfSome o (λ back. (back ≡ ops) × May)
nothing_back ops May (Some back) none = absurd cc
nothing_back ops May None none = tt

module _ (owner : Owner) (ranges : List ObjectRange) (plan : List Shape) where
  -- a refusal after which it is never made again
  pub given_up : {A : Type 0} (o : Option A) (result : Result Receipt PoolError) (s : Shown) → IfNone o (IfErr result (λ e. IsRetried ranges e → ⊥)) → IfNone o (IfErr result (λ e. IsForGood owner ranges plan e s))
  given_up (Some a) result s never = tt
  given_up None (Ok r) s never = tt
  given_up None (Err e) s never = λ again. absurd (never again)

  module _ {Dev : Type 0} {G : Ghosts Dev} (q p : PoolState Dev G) (v w : SeenPool) (is : q ≡ p) (x : Explains p v) (same : w ≡ v) where
    -- what is shown of the pool of a lock is what is seen of it
    shown_is_seen : shown q ≡ (viewed_state w).shown
    shown_is_seen = ap (λ (r : PoolState Dev G). shown r) is ∙ sym (ap (λ (u : SeenPool). (viewed_state u).shown) same ∙ ap (λ (s : State). s.shown) x.state)

    pub seen_to_pass : (result : Result Receipt PoolError) → IsErrAnd result (λ e. MayPass owner ranges plan e (shown q)) → IsErrAnd result (λ e. MayPass owner ranges plan e (viewed_state w).shown)
    seen_to_pass result may = subst (λ (s : Shown). IsErrAnd result (λ e. MayPass owner ranges plan e s)) shown_is_seen may

    pub seen_for_good : {A : Type 0} (o : Option A) (result : Result Receipt PoolError) → IfErr result (λ e. IsForGood owner ranges plan e (shown q)) → IfNone o (IfErr result (λ e. IsForGood owner ranges plan e (viewed_state w).shown))
    seen_for_good (Some a) result good = tt
    seen_for_good None result good = subst (λ (s : Shown). IfErr result (λ e. IsForGood owner ranges plan e s)) shown_is_seen good
