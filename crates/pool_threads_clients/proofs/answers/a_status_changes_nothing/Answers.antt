use Rattle.std.proofs.Math.Logic.{∥∥₁_map}
use Rattle.pool_threads.proofs.AloneSteps.{step_at_once}
use Rattle.pool_threads_clients.proofs.AnswerClients.{status_stays}
use Rattle.pool_threads_clients.proofs.answers.a_status_changes_nothing.Goals as goal

pub returns-clause-one_turn : goal.returns-clause-one_turn
returns-clause-one_turn g c = let made = c.status.ensures.made.made in (made.took, made.turn, made.met_none)

pub returns-clause-only : goal.returns-clause-only
returns-clause-only g c = λ only. ∥∥₁_map (step_at_once _ _ only c.status.ensures.made) (status_stays c.status.result _ _)
