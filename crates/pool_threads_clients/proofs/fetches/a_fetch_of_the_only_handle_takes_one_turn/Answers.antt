use Rattle.pool_threads_clients.proofs.FetchClients.{fetch_once}
use Rattle.pool_threads_clients.proofs.fetches.a_fetch_of_the_only_handle_takes_one_turn.Goals as goal

pub returns : goal.returns
returns g c = λ only. fetch_once c.args.owner c.args.object c.args.range c.args.handle.now c.fetch.new.self c.fetch.result c.fetch.ensures.made only
