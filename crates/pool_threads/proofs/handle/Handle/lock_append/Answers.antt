use Rattle.pool_threads.proofs.Seen.{appends_are_seen}
use Rattle.pool_threads.proofs.Tried.{sees_last, sees_last_refusal}
use Rattle.pool_threads.proofs.handle.Handle.lock_append.Goals as goal

pub returns-clause-granted : goal.returns-clause-granted
returns-clause-granted g c = sees_last _ _ _ c.retry.result c.retry.ensures.made _ (λ a. appends_are_seen _ _ a.0 a.1)

pub returns-clause-refused : goal.returns-clause-refused
returns-clause-refused g c = sees_last_refusal _ _ _ c.retry.result c.retry.ensures.made
