use Rattle.std.proofs.Common.{◌∙◌}
use Rattle.pool_tables.proofs.Charges.{available_told}
use Rattle.pool_tables.proofs.pool.PoolTables.available.Goals as goal

pub returns : goal.returns
returns c = c.available.ensures.count ∙ available_told c.args.self.now
