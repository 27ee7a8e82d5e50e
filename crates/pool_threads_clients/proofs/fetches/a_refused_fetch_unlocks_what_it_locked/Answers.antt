use Rattle.pool_threads_clients.proofs.FetchClients.{unlocks_refused}
use Rattle.pool_threads_clients.proofs.fetches.a_refused_fetch_unlocks_what_it_locked.Goals as goal

pub returns : goal.returns
returns g c = unlocks_refused c.args.owner c.args.object c.args.range c.args.handle.now c.fetch.new.self c.fetch.result c.fetch.ensures.made
