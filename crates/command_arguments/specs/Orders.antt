-- What a load is asked for.
use Rattle.std.specs.Prelude.{ℕ, ◌&&◌, Bool, nat_le}
use Rattle.command_arguments.specs.declared.order.Order.{Order}

-- whether an order has 1 to 16 workers, and at most 1,000,000 writes of each stream
abbrev pub is_order : Order → Bool
is_order order = nat_le 1 order.workers && nat_le order.workers 16 && nat_le order.writes 1000000
