-- The blocks that a started sync takes.
use Rattle.std.specs.Prelude.{Result, IfOk}
use Rattle.base.specs.declared.error.PoolError.{PoolError}
use Rattle.base.specs.declared.names.Group.{Group}
use Rattle.base.specs.history.Past.{Past}
use Rattle.base.specs.kept.Stored.{IsHeld}
use Rattle.pool_tables.specs.SyncStarts.{TakesInOrder}
use Rattle.pool_tables.specs.Told.{ShownPool, held_with}

-- from each past with which the device holds what it should, it takes them in the order of the places that it writes
abbrev pub StartsInOrder : Result Group PoolError → ShownPool → ShownPool → Type 0
StartsInOrder answer old new = (past : Past) → IsHeld (held_with old past) → IfOk answer (λ group. TakesInOrder group.0 past old new)
