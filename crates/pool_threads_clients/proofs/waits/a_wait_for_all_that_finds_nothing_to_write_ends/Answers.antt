use Rattle.pool_threads.proofs.FsyncedAll.{nothing_due}
use Rattle.pool_threads_clients.proofs.waits.a_wait_for_all_that_finds_nothing_to_write_ends.Goals as goal

pub returns : goal.returns
returns g c = let f = c.fsync_all.ensures.made in (f.reply, f.wrote, f.writes, nothing_due _ f.wrote _ f.reply f.writes c.fsync_all.result f.outcome f.is_outcome f.ends)
