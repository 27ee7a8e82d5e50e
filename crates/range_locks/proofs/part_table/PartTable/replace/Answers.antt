use Rattle.std.proofs.Common.{◌≡◌, false, true, ap, sym, ◌∙◌, arith}
use Rattle.std.specs.Prelude.{is_some}
use Rattle.range_locks.proofs.PartRows.{gap_none, get-replaced, rise-replaced, row_within}
use Rattle.range_locks.proofs.part_table.PartTable.replace.Goals as goal

pub index_mut-requires : goal.index_mut-requires
index_mut-requires c = let within = row_within c.args.at c.self.inside.rows.items c.in-Ok.place (rw (← c.self.view_is) at c.in-Ok.ensures.found) in omega (arith, within)

pub invariant_of-self : goal.invariant_of-self
invariant_of-self c = rise-replaced c.args.at c.args.part c.self.inside.rows.items c.in-Ok.place c.self.invariant (rw (← c.self.view_is) at c.in-Ok.ensures.found)

pub returns-in-Ok : goal.returns-in-Ok
returns-in-Ok c = rw (← c.self.view_is) (get-replaced c.args.at c.args.part c.self.inside.rows.items c.in-Ok.place (rw (← c.self.view_is) at c.in-Ok.ensures.found))

pub returns-in_default : goal.returns-in_default
returns-in_default c =
    let none = gap_none c.args.at c.args.self.now c.in_default.field-0 c.find.ensures.rise c.in_default.ensures.absent in
    absurd (let no_way : false ≡ true = sym (ap is_some none) ∙ c.requires in cc)
