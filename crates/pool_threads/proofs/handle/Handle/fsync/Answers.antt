use Rattle.pool_threads.proofs.Waited.{as_flush_wait}
use Rattle.pool_threads.proofs.WaitsSeen.{at_last_group, durable_seen, log_space_never, refusal_seen}
use Rattle.pool_threads.proofs.handle.Handle.fsync.Goals as goal

pub returns-clause-durable : goal.returns-clause-durable
returns-clause-durable g c = durable_seen _ _ _ _ (as_flush_wait _ _ _ _ c.wait_until_durable.ensures)

pub returns-clause-refused : goal.returns-clause-refused
returns-clause-refused g c = refusal_seen _ _ _ _ (as_flush_wait _ _ _ _ c.wait_until_durable.ensures)

pub returns-clause-not_log_space : goal.returns-clause-not_log_space
returns-clause-not_log_space g c = log_space_never _ _ _ _ (as_flush_wait _ _ _ _ c.wait_until_durable.ensures)

pub returns-clause-at_limit : goal.returns-clause-at_limit
returns-clause-at_limit g c = at_last_group _ _ _ _ (as_flush_wait _ _ _ _ c.wait_until_durable.ensures)
