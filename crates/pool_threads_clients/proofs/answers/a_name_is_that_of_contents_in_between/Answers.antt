use Rattle.std.proofs.Math.Logic.{∥∥₁_map}
use Rattle.pool_threads_clients.proofs.answers.a_name_is_that_of_contents_in_between.Goals as goal

pub returns : goal.returns
returns g c = ∥∥₁_map c.name.ensures.name (λ x. (x.0, x.1.count, x.1.no_shorter, x.1.no_longer, x.1.replayed, x.2))
