use Rattle.base.proofs.steps.SeenStates.{commits_are_seen}
use Rattle.pool_threads.proofs.Answered.{sees_answer, sees_refusal}
use Rattle.pool_threads.proofs.handle.Handle.commit.Goals as goal

pub returns-clause-committed : goal.returns-clause-committed
returns-clause-committed g c = sees_answer _ _ c.ask.result c.ask.ensures _ (λ r. commits_are_seen _ _ r)

pub returns-clause-refused : goal.returns-clause-refused
returns-clause-refused g c = sees_refusal _ _ c.ask.result c.ask.ensures
