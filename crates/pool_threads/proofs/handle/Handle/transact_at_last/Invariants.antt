use Rattle.std.proofs.Common.{◌≡◌, ◌≤◌, length, vec_capacity}
use Rattle.std.specs.Prelude.{IsTrue}
use Rattle.pool_threads.specs.Answers.{Takes}
use Rattle.pool_threads.specs.Handles.{moment_of}
use Rattle.pool_threads.specs.Transacts.{IsEarlierTurn}
use Rattle.pool_threads.proofs.handle.Handle.transact_at_last.Given as goal

-- so far the handle only tried, or made steps of a sync, and it has the operations
abbrev pub invariant-loop : goal.invariant-loop
invariant-loop g l =
    Takes (IsEarlierTurn (IsTrue g.D.SectorDevice.keeps_model) (moment_of l.initial.self) l.fn.owner l.fn.ranges l.fn.plan l.initial.ops) l.initial.self l.self × (l.ops ≡ l.initial.ops) × (length l.fn.ranges ≤ vec_capacity l.locks)
