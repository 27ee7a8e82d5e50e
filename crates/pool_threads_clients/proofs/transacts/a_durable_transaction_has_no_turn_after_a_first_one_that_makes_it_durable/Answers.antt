use Rattle.pool_threads_clients.proofs.WaitClients.{ends_at_once}
use Rattle.pool_threads_clients.proofs.transacts.a_durable_transaction_has_no_turn_after_a_first_one_that_makes_it_durable.Goals as goal

pub returns-in-Ok : goal.returns-in-Ok
returns-in-Ok g c =
    let t = c.in-Ok.ensures.made in
    let w = ends_at_once c.in-Ok.receipt _ _ _ t.waits in
    (t.done, t.transacts, w.0, w.1, w.2, w.3, w.4)
