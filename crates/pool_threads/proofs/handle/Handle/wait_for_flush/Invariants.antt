use Rattle.pool_threads.proofs.Waited.{HasWaited}
use Rattle.pool_threads.proofs.handle.Handle.wait_for_flush.Given as goal

-- so far it waited
abbrev pub invariant-loop : goal.invariant-loop
invariant-loop g l = HasWaited l.fn.receipt l.initial.self l.self
