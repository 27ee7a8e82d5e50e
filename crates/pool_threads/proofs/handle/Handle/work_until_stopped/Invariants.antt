use Rattle.pool_threads.specs.Loops.{Works}
use Rattle.pool_threads.proofs.handle.Handle.work_until_stopped.Given as goal

-- so far it did what was due
abbrev pub invariant-loop : goal.invariant-loop
invariant-loop g l = Works l.fn.duty l.initial.self l.self
