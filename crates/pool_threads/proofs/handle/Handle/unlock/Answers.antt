use Rattle.base.proofs.steps.SeenStates.{unlocks_are_seen}
use Rattle.pool_threads.proofs.Seen.{unlocks_are_ruled}
use Rattle.pool_threads.proofs.Answered.{is_ruled, sees_answer, sees_refusal}
use Rattle.pool_threads.proofs.handle.Handle.unlock.Goals as goal

pub returns-clause-let_go : goal.returns-clause-let_go
returns-clause-let_go g c = sees_answer _ _ c.ask.result c.ask.ensures _ (λ a. unlocks_are_seen _ _)

pub returns-clause-refused : goal.returns-clause-refused
returns-clause-refused g c = sees_refusal _ _ c.ask.result c.ask.ensures

pub returns-clause-no_memory : goal.returns-clause-no_memory
returns-clause-no_memory g c = is_ruled _ _ c.ask.result c.ask.ensures (unlocks_are_ruled _ _)
