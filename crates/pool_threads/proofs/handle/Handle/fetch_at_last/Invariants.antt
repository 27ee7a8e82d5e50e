use Rattle.pool_threads.proofs.FetchesSeen.{Tries}
use Rattle.pool_threads.proofs.handle.Handle.fetch_at_last.Given as goal

-- so far the handle only tried
abbrev pub invariant-loop : goal.invariant-loop
invariant-loop g l = Tries l.fn.read.owner l.fn.read.object l.fn.read.range l.initial.self l.self
