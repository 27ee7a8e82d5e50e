use Rattle.pool_threads.proofs.WaitsSeen.{durable_twice}
use Rattle.pool_threads_clients.proofs.waits.a_wait_ends_with_a_durable_commit.Goals as goal

pub returns-in-Err-fsync-clause-durable : goal.returns-in-Err-fsync-clause-durable
returns-in-Err-fsync-clause-durable g c = absurd (durable_twice _ c.in-Err-fsync.field-0 c.args.handle.now c.fsync.new.self c.fsync-in-Ok.new.self c.in-Ok.ensures.waited c.in-Err-fsync.ensures.refused)

pub returns-in-Err-fsync-clause-again : goal.returns-in-Err-fsync-clause-again
returns-in-Err-fsync-clause-again g c = absurd (durable_twice _ c.in-Err-fsync.field-0 c.args.handle.now c.fsync.new.self c.fsync-in-Ok.new.self c.in-Ok.ensures.waited c.in-Err-fsync.ensures.refused)
