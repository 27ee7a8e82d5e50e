use Rattle.std.proofs.Common.{arith}
use Rattle.pool_threads_clients.proofs.LongWriteClients.{one_is_one}
use Rattle.pool_threads_clients.proofs.long_writes.a_long_write_of_one_piece_is_one_transaction.Goals as goal

pub returns : goal.returns
returns g c = one_is_one (record { 0 = 3 }) c.args.handle.now c.write_long.new.self (record { 0 = 5 }) 7 c.args.bytes.now c.requires c.write_long.result (c.write_long.ensures.made (omega (arith, c.requires)))
