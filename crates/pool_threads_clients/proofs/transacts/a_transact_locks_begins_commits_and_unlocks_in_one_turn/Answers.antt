use Rattle.pool_threads_clients.proofs.TransactClients.{takes_all_steps}
use Rattle.pool_threads_clients.proofs.transacts.a_transact_locks_begins_commits_and_unlocks_in_one_turn.Goals as goal

pub returns : goal.returns
returns g c = takes_all_steps c.args.owner c.args.ops c.args.handle.now c.transact.new.self c.transact.result c.transact.ensures.made
