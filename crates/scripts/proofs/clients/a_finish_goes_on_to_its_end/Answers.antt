use Rattle.scripts.proofs.PoolSteps.{all_steps}
use Rattle.scripts.proofs.clients.a_finish_goes_on_to_its_end.Goals as goal

pub returns : goal.returns
returns g c = all_steps g.P.SteppedPool.makes c.run_pool_command.result c.args.pool.now c.run_pool_command.new.pool c.run_pool_command.ensures
