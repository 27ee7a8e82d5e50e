-- The tests of a begin, by what they ask: of the plan alone, of its ranges, and of the room for one more transaction
-- with its charge and its blocks.
use Rattle.std.specs.Prelude.{ℕ, ◌+◌, ◌&&◌, ◌||◌, Bool, List, [], ◌∷◌, is_none, length, nat_le, nat_lt, not}
use Rattle.base.specs.declared.error.PoolError.TheVariants as error
use Rattle.base.specs.declared.operation.Shape.{Shape}
use Rattle.base.specs.formats.Limits.{last_number, max_log_record, max_transactions}
use Rattle.base.specs.history.Plans.{charge_of, is_plan_allowed, log_record_size}
use Rattle.base.specs.steps.Refusals.{Test, blocks_wanted, first_refusal, refused_if, is_plan_covered, is_plan_blocked}
use Rattle.base.specs.steps.Shown.{Shown, available, dirty_total}

abbrev pub plan_tests : List Shape → List Test
plan_tests plan =
    refused_if (not (is_plan_allowed plan)) error.BadRange
    ∷ refused_if (nat_lt max_log_record (log_record_size plan)) error.TooLarge ∷ []

abbrev pub range_tests : ℕ → List Shape → Shown → List Test
range_tests owner plan s =
    refused_if (not (is_plan_covered owner plan s.locks)) error.NotLocked
    ∷ refused_if (is_plan_blocked plan s.transactions) error.Busy ∷ []

abbrev pub room_tests : List Shape → Shown → List Test
room_tests plan s =
    refused_if (nat_le max_transactions (length s.transactions) || nat_lt last_number s.next_tx) error.TooMany
    ∷ refused_if (nat_lt s.dirty_max (dirty_total s + charge_of plan)) error.Throttled
    ∷ refused_if (nat_lt (available s) (blocks_wanted s.contents plan)) error.NoSpace ∷ []

-- a plan that a transaction may have, whose charge alone is above the limit of all charges
abbrev pub is_above_limit : List Shape → Shown → Bool
is_above_limit plan s = is_none (first_refusal (plan_tests plan)) && nat_lt s.dirty_max (charge_of plan)
