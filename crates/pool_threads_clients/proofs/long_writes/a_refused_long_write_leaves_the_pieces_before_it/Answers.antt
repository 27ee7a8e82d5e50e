use Rattle.std.proofs.Common.{arith}
use Rattle.pool_threads_clients.proofs.LongWriteClients.{first_stays}
use Rattle.pool_threads_clients.proofs.long_writes.a_refused_long_write_leaves_the_pieces_before_it.Goals as goal

pub returns : goal.returns
returns g c = first_stays (record { 0 = 3 }) c.args.handle.now c.write_long.new.self (record { 0 = 5 }) 7 c.args.bytes.now c.requires.more c.requires.fits c.write_long.result (c.write_long.ensures.made (omega (arith, c.requires.fits)))
