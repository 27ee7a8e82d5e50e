use Rattle.std.proofs.Math.Logic.{∥∥₁_map}
use Rattle.pool_threads.proofs.AloneSteps.{step_at_once}
use Rattle.pool_threads_clients.proofs.AnswerClients.{durable_stays}
use Rattle.pool_threads_clients.proofs.answers.a_question_for_a_receipt_changes_nothing.Goals as goal

pub returns-clause-one_turn : goal.returns-clause-one_turn
returns-clause-one_turn g c = let made = c.durable.ensures.made.made in (made.took, made.turn, made.met_none)

pub returns-clause-only : goal.returns-clause-only
returns-clause-only g c = λ only. ∥∥₁_map (step_at_once _ _ only c.durable.ensures.made) (durable_stays c.args.receipt c.durable.result _ _)
