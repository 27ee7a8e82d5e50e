use Rattle.std.specs.Prelude.{IsTrue}
use Rattle.pool_threads.specs.Answers.{Takes}
use Rattle.pool_threads.specs.Handles.{moment_of}
use Rattle.pool_threads.specs.Waits.{IsSyncTurn}
use Rattle.pool_threads.proofs.handle.Handle.sync_up_to.Given as goal

-- so far it only did what was due
abbrev pub invariant-loop : goal.invariant-loop
invariant-loop g l = Takes (IsSyncTurn (IsTrue g.D.SectorDevice.keeps_model) (moment_of l.initial.self) l.fn.group) l.initial.self l.self
