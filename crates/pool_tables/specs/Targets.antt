-- Ranges as definitions speak of them.
use Rattle.std.specs.Prelude.{ℕ, Bool, List}
use Rattle.std.specs.List.{list_all}
use Rattle.base.specs.declared.operation.Shape.{Shape}
use Rattle.base.specs.steps.Locks.{Grant, is_covered_for_writing}
use Rattle.transactions.specs.Ranges.{kept_range_of}

-- whether each range that a plan touches lies in a writer lock of the owner
abbrev pub is_kept_covered : ℕ → List Grant → List Shape → Bool
is_kept_covered owner grants plan = list_all (λ x. is_covered_for_writing owner (kept_range_of x) grants) plan
