use Rattle.pool_threads.proofs.FetchesSeen.{busy_by_own, fetches_seen, leaves_no_lock, refusals_seen}
use Rattle.pool_threads.proofs.handle.Handle.fetch.Goals as goal

pub returns-clause-bytes : goal.returns-clause-bytes
returns-clause-bytes g c = λ keeps. fetches_seen c.args.owner c.args.object c.args.range keeps c.fetch_at_last.result c.args.self.now c.fetch_at_last.new.self c.fetch_at_last.ensures

pub returns-clause-refused : goal.returns-clause-refused
returns-clause-refused g c = refusals_seen c.args.owner c.args.object c.args.range c.fetch_at_last.result c.args.self.now c.fetch_at_last.new.self c.fetch_at_last.ensures

pub returns-clause-busy : goal.returns-clause-busy
returns-clause-busy g c = busy_by_own c.args.owner c.args.object c.args.range c.fetch_at_last.result c.args.self.now c.fetch_at_last.new.self c.fetch_at_last.ensures

pub returns-clause-released : goal.returns-clause-released
returns-clause-released g c = leaves_no_lock c.args.owner c.args.object c.args.range c.fetch_at_last.result c.args.self.now c.fetch_at_last.new.self c.fetch_at_last.ensures
