use Rattle.pool_threads_clients.proofs.FetchClients.{takes_all_steps}
use Rattle.pool_threads_clients.proofs.fetches.a_fetch_locks_reads_and_unlocks_in_one_turn.Goals as goal

pub returns : goal.returns
returns g c = takes_all_steps c.args.owner c.args.object c.args.range c.args.handle.now c.fetch.new.self c.fetch.result c.fetch.ensures.made
