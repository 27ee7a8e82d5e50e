-- An answer by what is shown of its value.
use Rattle.std.specs.Prelude.{Result, Ok, Err}
use Rattle.base.specs.declared.error.PoolError.{PoolError}

abbrev pub result_map : {A B : Type 0} → (A → B) → Result A PoolError → Result B PoolError
result_map f (Ok a) = Ok (f a)
result_map f (Err e) = Err e
