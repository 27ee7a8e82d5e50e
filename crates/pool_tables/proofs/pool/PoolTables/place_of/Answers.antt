use Rattle.std.proofs.Common.{arith}
use Rattle.throttle.proofs.SumLaws.{open_within}
use Rattle.pool_tables.proofs.pool.PoolTables.place_of.Goals as goal

pub returns-clause-within : goal.returns-clause-within
returns-clause-within c =
    let line = c.args.self.now.groups.line in
    let three = open_within line c.args.self.now.accounted.counted.line in
    let above = c.requires.above in
    let open_or_before = c.requires.open_or_before in
    omega (arith, three, above, open_or_before, c.synced.ensures)
