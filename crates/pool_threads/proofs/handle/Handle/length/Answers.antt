use Rattle.pool_threads.proofs.Seen.{lengths_are_ruled, lengths_are_seen}
use Rattle.pool_threads.proofs.Answered.{is_ruled, sees_answer, sees_refusal}
use Rattle.pool_threads.proofs.handle.Handle.length.Goals as goal

pub returns-clause-length : goal.returns-clause-length
returns-clause-length g c = sees_answer _ _ c.ask.result c.ask.ensures _ (λ n. lengths_are_seen _ n)

pub returns-clause-refused : goal.returns-clause-refused
returns-clause-refused g c = sees_refusal _ _ c.ask.result c.ask.ensures

pub returns-clause-no_memory : goal.returns-clause-no_memory
returns-clause-no_memory g c = is_ruled _ _ c.ask.result c.ask.ensures (lengths_are_ruled _)
