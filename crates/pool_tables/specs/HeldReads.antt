-- Reads of a pool whose device holds what it should: they are those of the definitions over a device that keeps the
-- disk model.
use Rattle.std.specs.Prelude.{ℕ, List, Result}
use Rattle.base.specs.declared.error.PoolError.{PoolError}
use Rattle.base.specs.declared.names.ObjectId.{ObjectId}
use Rattle.base.specs.declared.names.Owner.{Owner}
use Rattle.base.specs.declared.range.Range.{Range}
use Rattle.base.specs.history.Past.{Past}
use Rattle.base.specs.steps.Refusals.{object_range}
use Rattle.base.specs.steps.Steps as steps
use Rattle.base.specs.kept.Stored.{IsHeld}
use Rattle.pool_tables.specs.Told.{ShownPool, held_with, state_with}

abbrev pub ReadsHeld : Owner → ObjectId → Range → Result (List ℕ) PoolError → ShownPool → Type 0
ReadsHeld owner object range answer t = (past : Past) → IsHeld (held_with t past)
    → steps.Read (Unit {0}) owner.0 (object_range object.0 range.low range.high) answer (state_with t past) (state_with t past)

abbrev pub DigestHeld : Result (List ℕ) PoolError → ShownPool → Type 0
DigestHeld answer t = (past : Past) → IsHeld (held_with t past) → steps.Digest (Unit {0}) answer (state_with t past) (state_with t past)
