use Rattle.pool_threads_clients.proofs.OwnWays.{fetch_waits}
use Rattle.pool_threads_clients.proofs.in_time.a_fetch_waits_for_other_owners_alone.Goals as goal

pub returns : goal.returns
returns g c = fetch_waits (record { 0 = 3 }) c.args.handle.now c.fetch.new.self (record { 0 = 5 }) c.args.range c.fetch.result c.fetch.ensures.made
