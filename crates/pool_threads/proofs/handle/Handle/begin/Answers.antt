use Rattle.base.proofs.steps.SeenStates.{begins_are_seen}
use Rattle.pool_threads.proofs.Tried.{sees_last, sees_last_refusal}
use Rattle.pool_threads.proofs.Throttled.{ends_for_good}
use Rattle.pool_threads.specs.Answers.{state_seen}
use Rattle.pool_threads.proofs.handle.Handle.begin.Goals as goal

pub returns-clause-admitted : goal.returns-clause-admitted
returns-clause-admitted g c = sees_last _ _ _ c.retry.result c.retry.ensures.made _ (λ a. begins_are_seen _ _ a.0 a.1)

pub returns-clause-refused : goal.returns-clause-refused
returns-clause-refused g c = sees_last_refusal _ _ _ c.retry.result c.retry.ensures.made

pub returns-clause-for_good : goal.returns-clause-for_good
returns-clause-for_good g c = ends_for_good c.args.owner c.args.plan (state_seen c.retry.new.self) c.retry.result c.retry.ensures.for_good
