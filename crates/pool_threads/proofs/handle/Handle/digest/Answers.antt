use Rattle.pool_threads.proofs.Answered.{sees_answer_on, sees_refusal}
use Rattle.pool_threads.proofs.AnswersSeen.{digests_are_seen}
use Rattle.pool_threads.proofs.handle.Handle.digest.Goals as goal

pub returns-clause-digest : goal.returns-clause-digest
returns-clause-digest g c = λ keeps. sees_answer_on _ _ c.ask.result c.ask.ensures keeps _ digests_are_seen

pub returns-clause-refused : goal.returns-clause-refused
returns-clause-refused g c = sees_refusal _ _ c.ask.result c.ask.ensures
