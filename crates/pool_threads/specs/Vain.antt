-- Waits that would have no end, since only the owner that waits could end them.
use Rattle.std.specs.Prelude.{◌≡◌, ◌||◌, List, true}
use Rattle.base.specs.declared.names.Owner.{Owner}
use Rattle.base.specs.declared.operation.Shape.{Shape}
use Rattle.base.specs.declared.range.Mode.{Mode}
use Rattle.base.specs.history.Plans.{NumberRange}
use Rattle.base.specs.steps.Shown.{Shown}
use Rattle.pool_tables.specs.BeginTests.{is_above_limit}
use Rattle.range_locks.specs.Locks.{is_blocked_by_own}
use Rattle.transactions.specs.Open.{has_one_open}

-- a lock that the owner holds itself overlaps this range, and not both are of readers
abbrev pub IsInOwnWay : Owner → NumberRange → Mode → Shown → Type 0
IsInOwnWay owner range mode s = is_blocked_by_own owner.0 range mode s.locks ≡ true

-- the plan's charge alone is above the dirty limit, or the owner has a transaction open
abbrev pub IsThrottledInVain : Owner → List Shape → Shown → Type 0
IsThrottledInVain owner plan s = (is_above_limit plan s || has_one_open owner.0 s.transactions) ≡ true
