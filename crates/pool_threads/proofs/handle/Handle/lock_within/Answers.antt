use Rattle.base.proofs.steps.SeenStates.{locks_are_seen}
use Rattle.pool_threads.proofs.CountedTries.{limited_by, patient_for}
use Rattle.pool_threads.proofs.Tried.{sees_last, sees_last_refusal}
use Rattle.pool_threads.proofs.handle.Handle.lock_within.Goals as goal

pub returns-clause-granted : goal.returns-clause-granted
returns-clause-granted g c = sees_last _ _ _ c.retry_within.result c.retry_within.ensures.made _ (λ id. locks_are_seen _ _ _ _ id)

pub returns-clause-refused : goal.returns-clause-refused
returns-clause-refused g c = sees_last_refusal _ _ _ c.retry_within.result c.retry_within.ensures.made

pub returns-clause-limited : goal.returns-clause-limited
returns-clause-limited g c = limited_by _ _ c.as_micros.ensures c.args.self.now c.retry_within.new.self c.retry_within.ensures.limited

pub returns-clause-patient : goal.returns-clause-patient
returns-clause-patient g c = patient_for _ _ c.as_micros.ensures c.args.self.now c.retry_within.new.self _ c.retry_within.result c.retry_within.ensures.patient
