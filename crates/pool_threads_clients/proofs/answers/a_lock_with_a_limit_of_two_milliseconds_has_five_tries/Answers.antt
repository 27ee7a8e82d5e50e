use Rattle.std.proofs.Common.{ap}
use Rattle.pool_threads.specs.Handles.{tries_within}
use Rattle.pool_threads.proofs.CountedTries.{most_of, patient_of}
use Rattle.pool_threads_clients.proofs.answers.a_lock_with_a_limit_of_two_milliseconds_has_five_tries.Goals as goal

pub returns-clause-most : goal.returns-clause-most
returns-clause-most g c = most_of _ 5 (ap tries_within c.from_millis-limit.ensures) c.args.handle.now c.lock_within.new.self c.lock_within.ensures.limited

pub returns-clause-busy : goal.returns-clause-busy
returns-clause-busy g c = patient_of _ 5 (ap tries_within c.from_millis-limit.ensures) c.args.handle.now c.lock_within.new.self _ c.lock_within.result c.lock_within.ensures.patient
