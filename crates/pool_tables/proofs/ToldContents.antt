-- What is told of an object, step by step.
use Rattle.std.proofs.Common.{ℕ, ◌≡◌, true, false, refl}
use Rattle.std.specs.Prelude.{Some, None, Result, Ok, Err}
use Rattle.base.specs.declared.error.PoolError.{PoolError}
use Rattle.base.specs.declared.error.PoolError.TheVariants as error
use Rattle.base.specs.steps.Refusals.{length_refusal}
use Rattle.base.specs.steps.Shown.{Shown}
use Rattle.base.specs.steps.Steps.{Length}
use Rattle.pool_tables.specs.Meets.{FindsLength, Meets}

pub length_suspended : (n : ℕ) (s : Shown) → s.suspended ≡ true → Meets (Length n) (Err error.Suspended) s s
length_suspended n s h = λ past. (past, rw h (refl, refl))

pub length_found : (n : ℕ) (answer : Result ℕ PoolError) (s : Shown) → s.suspended ≡ false → FindsLength n answer s → Meets (Length n) answer s s
length_found n (Ok length) s h found = λ past. (past, let none : length_refusal n s ≡ None = rw (h, found.0, found.1) refl in rw none (found.1, refl))
length_found n (Err e) s h none = λ past. (past, let is : length_refusal n s ≡ Some e = rw h none in rw is (refl, refl))
