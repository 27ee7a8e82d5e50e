use Rattle.base.proofs.step_laws.steps_keep_tables.Goals as goal
use Rattle.base.proofs.steps.KeptTables.{steps_keep_tables}

pub returns : goal.returns
returns c = steps_keep_tables ⊥
