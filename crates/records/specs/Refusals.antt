-- What a call that takes memory is refused for.
use Rattle.std.specs.Prelude.{◌≡◌, Option, Some, None}
use Rattle.base.specs.declared.error.PoolError.{PoolError}
use Rattle.base.specs.declared.error.PoolError.TheVariants.{NoMemory}

-- a refusal is that of the first test that applies, or if none does, want of memory
abbrev pub Refuses : Option PoolError → PoolError → Type 0
Refuses (Some refusal) e = e ≡ refusal
Refuses None e = e ≡ NoMemory
