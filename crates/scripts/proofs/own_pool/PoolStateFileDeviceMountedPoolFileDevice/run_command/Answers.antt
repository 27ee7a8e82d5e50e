use Rattle.scripts.proofs.OwnRuns.{goes_safely}
use Rattle.scripts.proofs.own_pool.PoolStateFileDeviceMountedPoolFileDevice.run_command.Goals as goal

pub returns-clause-kept : goal.returns-clause-kept
returns-clause-kept g c = λ keep. goes_safely keep c.args.command c.args.moment c.run_pool_command-reply.result c.args.self c.run_pool_command-reply.new.pool c.run_pool_command-reply.ensures
