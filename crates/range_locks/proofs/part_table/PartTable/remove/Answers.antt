use Rattle.std.proofs.Common.{arith}
use Rattle.range_locks.proofs.PartRows.{get-kept, get-removed, rise-removed, row_within}
use Rattle.range_locks.proofs.part_table.PartTable.remove.Goals as goal

pub remove-requires : goal.remove-requires
remove-requires c = let within = row_within c.args.at c.self.inside.rows.items c.in-Ok.place (rw (← c.self.view_is) at c.in-Ok.ensures.found) in omega (arith, within)

pub invariant_of-self : goal.invariant_of-self
invariant_of-self c = rw c.remove.ensures.items (rise-removed c.self.inside.rows.items c.in-Ok.place c.self.invariant)

pub returns-in-Ok : goal.returns-in-Ok
returns-in-Ok c =
    rw (c.remove.ensures.items, ← c.self.view_is) (get-removed c.args.at c.self.inside.rows.items c.in-Ok.place c.self.invariant (rw (← c.self.view_is) at c.in-Ok.ensures.found))

pub returns-in_default : goal.returns-in_default
returns-in_default c = get-kept c.args.at c.args.self.now c.in_default.field-0 c.find.ensures.rise c.in_default.ensures.absent
