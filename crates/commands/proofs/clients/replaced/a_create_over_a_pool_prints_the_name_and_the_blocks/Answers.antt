use Rattle.read_commands.proofs.PoolLines.{tank_created}
use Rattle.commands.proofs.clients.replaced.a_create_over_a_pool_prints_the_name_and_the_blocks.Goals as goal

pub returns : goal.returns
returns g c = λ zero empty. tank_created _ _ empty (c.run_create_over.ensures.created zero)
