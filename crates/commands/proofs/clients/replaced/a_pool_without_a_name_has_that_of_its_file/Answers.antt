use Rattle.commands.proofs.Replaced.{tank_of_file}
use Rattle.commands.proofs.clients.replaced.a_pool_without_a_name_has_that_of_its_file.Goals as goal

pub returns : goal.returns
returns g c = λ zero empty. tank_of_file _ _ empty (c.run_create_sized.ensures.created zero)
