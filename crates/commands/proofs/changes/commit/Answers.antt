use Rattle.std.proofs.Common.{subst}
use Rattle.pool_threads.specs.Transacts.{TransactsOrLacks}
use Rattle.running_pools.specs.Commits.{command_owner}
use Rattle.commands.proofs.changes.commit.Goals as goal

pub returns : goal.returns
returns g c = subst (λ ops. TransactsOrLacks command_owner ops c.transact.result c.args.handle.now c.transact.new.self) c.in_ok-ops.ensures c.transact.ensures.made
