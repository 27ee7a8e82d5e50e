use Rattle.std.proofs.Math.Logic.{∥∥₁_map}
use Rattle.pool_threads_clients.proofs.AnswerClients.{status_numbers}
use Rattle.pool_threads_clients.proofs.answers.a_status_has_the_numbers_of_one_state.Goals as goal

pub returns : goal.returns
returns g c = ∥∥₁_map c.status.ensures.status (status_numbers c.status.result _ _)
