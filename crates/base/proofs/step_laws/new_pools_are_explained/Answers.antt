use Rattle.base.proofs.step_laws.new_pools_are_explained.Goals as goal
use Rattle.base.proofs.steps.KeptTables.{new_pools_are_explained}

pub returns : goal.returns
returns c = new_pools_are_explained
