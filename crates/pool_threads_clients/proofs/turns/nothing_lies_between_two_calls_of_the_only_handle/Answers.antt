use Rattle.pool_threads.proofs.Made.{one_after_the_other}
use Rattle.pool_threads_clients.proofs.turns.nothing_lies_between_two_calls_of_the_only_handle.Goals as goal

pub returns : goal.returns
returns g c = λ only. one_after_the_other _ _ _ only c.commit.ensures.made.made c.length.ensures.made.made
