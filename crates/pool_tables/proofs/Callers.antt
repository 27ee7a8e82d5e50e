-- What a caller reads off an answer: refused by the first test that applies, all stands.
use Rattle.std.proofs.Common.{◌≡◌, ap, subst}
use Rattle.std.specs.Prelude.{Option, Some, Result, Err}
use Rattle.base.specs.declared.error.PoolError.{PoolError}
use Rattle.base.specs.history.Past.{Past}
use Rattle.base.specs.steps.Shown.{Shown}
use Rattle.base.specs.steps.Steps.{Answers, State}

-- Refused by its tests, a call answers so, and all stands.
pub refused_by : {A : Type 0} (r : Option PoolError) (e : PoolError) (answer : Result A PoolError) (s new : Shown) (past later : Past) (does : A → Type 0) (own : PoolError → Type 0)
    → r ≡ Some e → Answers r answer (record { shown = s; past = past }) (record { shown = new; past = later }) does own → (answer ≡ Err e) × (new ≡ s)
refused_by r e answer s new past later does own is h =
    let both = subst (λ (q : Option PoolError). Answers q answer (record { shown = s; past = past }) (record { shown = new; past = later }) does own) is h in
    (both.0, ap (λ (x : State). x.shown) both.1)
