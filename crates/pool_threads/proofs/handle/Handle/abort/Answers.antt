use Rattle.pool_threads.proofs.Seen.{aborts_are_ruled, aborts_are_seen}
use Rattle.pool_threads.proofs.Answered.{is_ruled, sees_answer, sees_refusal}
use Rattle.pool_threads.proofs.handle.Handle.abort.Goals as goal

pub returns-clause-aborted : goal.returns-clause-aborted
returns-clause-aborted g c = sees_answer _ _ c.ask.result c.ask.ensures _ (λ a. aborts_are_seen _)

pub returns-clause-refused : goal.returns-clause-refused
returns-clause-refused g c = sees_refusal _ _ c.ask.result c.ask.ensures

pub returns-clause-no_memory : goal.returns-clause-no_memory
returns-clause-no_memory g c = is_ruled _ _ c.ask.result c.ask.ensures (aborts_are_ruled _)
