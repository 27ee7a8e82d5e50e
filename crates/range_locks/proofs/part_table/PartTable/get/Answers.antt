use Rattle.std.proofs.Common.{sym, arith}
use Rattle.range_locks.proofs.PartRows.{gap_none, row_is, row_read, row_within}
use Rattle.range_locks.proofs.part_table.PartTable.get.Goals as goal

pub index-requires : goal.index-requires
index-requires c = let within = row_within c.args.at c.self.inside.rows.items c.in-Ok.place (rw (← c.self.view_is) at c.in-Ok.ensures.found) in omega (arith, within)

pub returns-in-Ok : goal.returns-in-Ok
returns-in-Ok c =
    let items = c.self.inside.rows.items in
    let found = rw (← c.self.view_is) at c.in-Ok.ensures.found in
    let read = row_read items c.in-Ok.place c.index.result.now (row_within c.args.at items c.in-Ok.place found) c.index.ensures in
    rw (← c.self.view_is) (sym (row_is c.args.at items c.in-Ok.place c.index.result.now found read).1)

pub returns-in-Err : goal.returns-in-Err
returns-in-Err c = sym (gap_none c.args.at c.args.self.now _ c.find.ensures.rise c.in-Err.ensures.absent)
