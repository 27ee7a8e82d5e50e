-- What a load of an order commits.
use Rattle.std.specs.Prelude.{ℕ, ◌+◌, ◌*◌}
use Rattle.command_arguments.specs.declared.order.Order.{Order}

-- the transactions of a load: one for each of 17 objects, and one for each write of 16 streams
abbrev pub committed_by : Order → ℕ
committed_by order = 17 + 16 * order.writes
