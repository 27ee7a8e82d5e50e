use Rattle.std.specs.Prelude.{IsTrue, Some}
use Rattle.pool_threads.specs.Serves.{MakesDue}
use Rattle.pool_threads.specs.Views.{Explains}
use Rattle.pool_threads.proofs.turn.serve_noted.Given as goal

-- steps that were due were made, the last with this reply
abbrev pub invariant-loop : goal.invariant-loop
invariant-loop g l = Explains l.held.value.value l.held.view.value × MakesDue (IsTrue g.D.SectorDevice.keeps_model) l.fn.duty (Some l.reply) l.fn.held.view.value l.held.view.value
