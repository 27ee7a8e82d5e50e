use Rattle.range_locks.proofs.PartRows.{first_at_gap, first_at_row}
use Rattle.range_locks.proofs.part_table.PartTable.first_from.Goals as goal

pub returns-in-Ok : goal.returns-in-Ok
returns-in-Ok c = first_at_row c.args.low c.args.self.now c.in-Ok.place c.find.ensures.rise c.in-Ok.ensures.found _ c.row.ensures

pub returns-in-Err : goal.returns-in-Err
returns-in-Err c = first_at_gap c.args.low c.args.self.now c.in-Err.place c.find.ensures.rise c.in-Err.ensures.absent _ c.row-in-Err.ensures
