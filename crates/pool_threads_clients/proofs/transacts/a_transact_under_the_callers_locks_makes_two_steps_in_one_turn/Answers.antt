use Rattle.pool_threads_clients.proofs.TransactClients.{takes_both_steps}
use Rattle.pool_threads_clients.proofs.transacts.a_transact_under_the_callers_locks_makes_two_steps_in_one_turn.Goals as goal

pub returns : goal.returns
returns g c = takes_both_steps c.args.owner c.args.ops c.args.handle.now c.transact_locked.new.self c.transact_locked.result c.transact_locked.ensures.made
