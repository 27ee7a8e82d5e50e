use Rattle.std.proofs.Common.{arith}
use Rattle.pool_threads_clients.proofs.LongWriteClients.{two_are_two}
use Rattle.pool_threads_clients.proofs.long_writes.a_long_write_of_two_pieces_is_two_transactions.Goals as goal

pub returns : goal.returns
returns g c = two_are_two (record { 0 = 3 }) c.args.handle.now c.write_long.new.self (record { 0 = 5 }) 7 c.args.bytes.now c.requires.more c.requires.fits c.write_long.result (c.write_long.ensures.made (omega (arith, c.requires.fits)))
