use Rattle.base.proofs.steps.SeenStates.{reads_are_seen}
use Rattle.pool_threads.proofs.Answered.{sees_answer_on, sees_refusal}
use Rattle.pool_threads.proofs.handle.Handle.read.Goals as goal

pub returns-clause-bytes : goal.returns-clause-bytes
returns-clause-bytes g c = λ keeps. sees_answer_on _ _ c.ask.result c.ask.ensures keeps _ (λ b. reads_are_seen _ _ _ b)

pub returns-clause-refused : goal.returns-clause-refused
returns-clause-refused g c = sees_refusal _ _ c.ask.result c.ask.ensures
