use Rattle.std.proofs.Common.{arith}
use Rattle.range_locks.proofs.PartRows.{gap_within, get-inserted, get-replaced, rise-inserted, rise-replaced, row_within}
use Rattle.range_locks.proofs.part_table.PartTable.insert.Goals as goal

pub index_mut-requires : goal.index_mut-requires
index_mut-requires c = let within = row_within c.args.at c.self.inside.rows.items c.in-Ok.place (rw (← c.self.view_is) at c.in-Ok.ensures.found) in omega (arith, within)

pub invariant_of-self : goal.invariant_of-self
invariant_of-self c = rise-replaced c.args.at c.args.part c.self.inside.rows.items c.in-Ok.place c.self.invariant (rw (← c.self.view_is) at c.in-Ok.ensures.found)

pub returns-in-Ok-clause-inserted : goal.returns-in-Ok-clause-inserted
returns-in-Ok-clause-inserted c = rw (← c.self.view_is) (get-replaced c.args.at c.args.part c.self.inside.rows.items c.in-Ok.place (rw (← c.self.view_is) at c.in-Ok.ensures.found))

pub insert-requires : goal.insert-requires
insert-requires c = let within = gap_within c.args.at c.self.inside.rows.items c.in-Err.place (rw (← c.self.view_is) at c.in-Err.ensures.absent) in omega (arith, within)

pub invariant_of-self-in-Continue-1 : goal.invariant_of-self-in-Continue-1
invariant_of-self-in-Continue-1 c =
    rw c.in_ok-insert-in-Err.ensures.items (rise-inserted c.args.at c.args.part c.self.inside.rows.items c.in-Err.place c.self.invariant (rw (← c.self.view_is) at c.in-Err.ensures.absent))

pub returns-in_ok-insert-in-Err-clause-inserted : goal.returns-in_ok-insert-in-Err-clause-inserted
returns-in_ok-insert-in-Err-clause-inserted c =
    rw (c.in_ok-insert-in-Err.ensures.items, ← c.self.view_is) (get-inserted c.args.at c.args.part c.self.inside.rows.items c.in-Err.place (rw (← c.self.view_is) at c.in-Err.ensures.absent))
