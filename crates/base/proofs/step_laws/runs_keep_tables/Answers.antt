use Rattle.base.proofs.step_laws.runs_keep_tables.Goals as goal
use Rattle.base.proofs.steps.KeptTables.{runs_keep_tables}

pub returns : goal.returns
returns c = runs_keep_tables ⊥
