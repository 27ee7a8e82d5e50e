-- What an answer tells, told of the reply that is made of it.
use Rattle.std.proofs.Common.{◌≡◌, ap, refl}
use Rattle.std.specs.Prelude.{Result, Ok, Err, MatchResult, IsOkAnd}
use Rattle.base.specs.declared.error.PoolError.{PoolError}
use Rattle.base.specs.declared.step.Reply.{Reply}
use Rattle.base.specs.history.Past.{Past}
use Rattle.base.specs.steps.Runs.{Replies, reply_of}
use Rattle.pool_core.specs.Calls.{reply_in}
use Rattle.pool_tables.specs.Tables.{result_map}

-- the reply that is made of the value of an answer
pub reply_in-made : {A : Type 0} (make : A → Reply) (answer : Result A PoolError) (made : Result Reply PoolError)
    → MatchResult answer (λ a. IsOkAnd made (λ r. r ≡ make a)) (λ e. made ≡ Err e) → reply_in made ≡ reply_of make answer
reply_in-made make (Ok a) (Ok r) is = is
reply_in-made make (Ok a) (Err e) is = absurd is
reply_in-made make (Err e) made is = ap reply_in is

-- what is so of an answer and a later past is so of its reply
pub replied_with : {A B : Type 0} (Holds : Result B PoolError → Past → Type 0) (f : A → B) (make : B → Reply) (answer : Result A PoolError) (given : Reply)
    → given ≡ reply_of (λ (a : A). make (f a)) answer → (later : Past) × Holds (result_map f answer) later → (later : Past) × Replies make given (λ x. Holds x later)
replied_with Holds f make (Ok a) given is m = (m.0, (Ok (f a), is, m.1))
replied_with Holds f make (Err e) given is m = (m.0, (Err e, is, m.1))

pub result_map-same : {A : Type 0} (answer : Result A PoolError) → result_map (λ a. a) answer ≡ answer
result_map-same (Ok a) = refl
result_map-same (Err e) = refl
