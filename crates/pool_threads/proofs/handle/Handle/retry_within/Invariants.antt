use Rattle.pool_threads.specs.Handles.{TakesSoMany}
use Rattle.pool_threads.proofs.InTime.{TriesInTime}
use Rattle.pool_threads.proofs.handle.Handle.retry_within.Given as goal

-- so far the handle only tried, once before each nap, and never in vain
abbrev pub invariant-loop : goal.invariant-loop
invariant-loop g l =
    TriesInTime (g.C.PoolCall.step l.initial.call) g.C.RetriedCall.retried (g.C.RetriedCall.is_in_vain l.initial.call) l.initial.self l.self × TakesSoMany l.counter l.initial.self l.self
