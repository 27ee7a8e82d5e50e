use Rattle.pool_threads.proofs.CountedTries.{lock_is_held}
use Rattle.pool_threads_clients.proofs.answers.a_lock_with_a_limit_is_held_by_its_owner.Goals as goal

pub returns-clause-held : goal.returns-clause-held
returns-clause-held g c = lock_is_held _ _ _ _ _ _ _ c.lock_within.result c.lock_within.ensures.made
