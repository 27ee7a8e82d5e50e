-- What a bench is asked for.
use Rattle.std.specs.Prelude.{◌&&◌, Bool, nat_le}
use Rattle.command_arguments.specs.declared.bench.BenchOrder.{BenchOrder}

-- whether it is for 1 to 64 workers, writes of 1 to 64,512 bytes, and 1 to 86,400 seconds
abbrev pub is_bench_order : BenchOrder → Bool
is_bench_order order = nat_le 1 order.workers && nat_le order.workers 64 && nat_le 1 order.bytes && nat_le order.bytes 64512
    && nat_le 1 order.seconds && nat_le order.seconds 86400
