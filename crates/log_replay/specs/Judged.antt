-- Operations of a record that are judged.
use Rattle.std.specs.Prelude.{ℕ, ◌≡◌, ◌⊎◌, List, Err}
use Rattle.std.specs.Ordering.{nat_cmp}
use Rattle.std.specs.FinMap.{FinMap}
use Rattle.base.specs.declared.error.PoolError.{PoolError}
use Rattle.base.specs.declared.error.PoolError.TheVariants.{Damaged, NoMemory}
use Rattle.base.specs.declared.operation.Op.{Op}
use Rattle.base.specs.history.History.{apply_all}
use Rattle.contents.specs.Judging.{with_name}

-- they can't take place in order on these objects, for the same reason whatever the name of the pool is
abbrev pub IsRefusedOver : List Op → FinMap nat_cmp (List ℕ) → Type 0
IsRefusedOver ops objects = (error : PoolError) × ((name : List ℕ) → apply_all ops (with_name objects name) ≡ Err error)

-- a record of the piece at this address is refused: there is no memory, or it can't take place on these objects
abbrev pub IsRecordRefusal : List Op → ℕ → FinMap nat_cmp (List ℕ) → PoolError → Type 0
IsRecordRefusal ops address objects e =
    (e ≡ NoMemory) ⊎ ((e ≡ Damaged 6 address) × IsRefusedOver ops objects)
