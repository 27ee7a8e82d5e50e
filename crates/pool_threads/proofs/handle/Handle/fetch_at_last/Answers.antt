use Rattle.pool_threads.proofs.FetchesSeen.{fetched_at_last, tried_on}
use Rattle.pool_threads.proofs.Tried.{no_turns}
use Rattle.pool_threads.proofs.handle.Handle.fetch_at_last.Goals as goal

pub loop-init : goal.loop-init
loop-init g c = no_turns _ c.args.self.now

pub loop-preserved : goal.loop-preserved
loop-preserved g c = tried_on c.args.read.owner c.args.read.object c.args.read.range c.try_fetch.result _ _ _ c.loop.invariant c.try_fetch.ensures c.in_default.is

pub returns-in-Some-try_fetch : goal.returns-in-Some-try_fetch
returns-in-Some-try_fetch g c = fetched_at_last c.args.read.owner c.args.read.object c.args.read.range c.try_fetch.result _ _ _ c.loop.invariant c.try_fetch.ensures c.in-Some-try_fetch.result c.in-Some-try_fetch.is
