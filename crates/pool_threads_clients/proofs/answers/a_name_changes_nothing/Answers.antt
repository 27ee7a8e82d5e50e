use Rattle.std.proofs.Math.Logic.{∥∥₁_map}
use Rattle.pool_threads.proofs.AloneSteps.{step_at_once}
use Rattle.pool_threads_clients.proofs.AnswerClients.{name_stays}
use Rattle.pool_threads_clients.proofs.answers.a_name_changes_nothing.Goals as goal

pub returns-clause-one_turn : goal.returns-clause-one_turn
returns-clause-one_turn g c = let made = c.name.ensures.made.made in (made.took, made.turn, made.met_none)

pub returns-clause-only : goal.returns-clause-only
returns-clause-only g c = λ only. ∥∥₁_map (step_at_once _ _ only c.name.ensures.made) (name_stays c.name.result _ _)
