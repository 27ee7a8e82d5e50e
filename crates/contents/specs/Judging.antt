-- What operations make of objects, whatever the name of their pool is.
use Rattle.std.specs.Prelude.{◌≡◌, ℕ, Bool, List, Result, IfOk, is_some}
use Rattle.std.specs.Ordering.{nat_cmp}
use Rattle.std.specs.FinMap as finite
use Rattle.std.specs.FinMap.{FinMap}
use Rattle.base.specs.declared.error.PoolError.{PoolError}
use Rattle.base.specs.declared.operation.Op.{Op}
use Rattle.base.specs.history.Contents.{Contents}
use Rattle.base.specs.history.History.{apply_all}
use Rattle.contents.specs.ContentsShown.{Apply, Judges}

-- the contents with these objects and this name
abbrev pub with_name : FinMap nat_cmp (List ℕ) → List ℕ → Contents
with_name objects name = record { name = name; objects = objects }

-- the operations can take place in order on these objects
abbrev pub ApplyTo : List Op → FinMap nat_cmp (List ℕ) → Type 0
ApplyTo ops objects = (name : List ℕ) → Apply ops (with_name objects name)

-- an answer on operations: they can take place in order on these objects, or this is why the first that can't, can't
abbrev pub JudgesOver : List Op → FinMap nat_cmp (List ℕ) → Result Unit PoolError → Type 0
JudgesOver ops objects result = (name : List ℕ) → Judges ops (with_name objects name) result

-- whether object n is there after operations, if they can take place
abbrev pub TellsAfter : List Op → FinMap nat_cmp (List ℕ) → ℕ → Bool → Type 0
TellsAfter ops objects n there = (name : List ℕ) → IfOk (apply_all ops (with_name objects name)) (λ c. there ≡ is_some (finite.get c.objects n))
