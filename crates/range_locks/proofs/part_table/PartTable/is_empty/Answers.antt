use Rattle.std.proofs.Common.{◌≡◌, sym, ◌∙◌, arith}
use Rattle.std.specs.Prelude.{vec_len}
use Rattle.std.proofs.lemmas.Bool.{eq-eqb, eqb-true}
use Rattle.range_locks.proofs.PartRows.{no_entries, no_parts}
use Rattle.range_locks.proofs.part_table.PartTable.is_empty.Goals as goal

pub returns : goal.returns
returns c =
    let items = c.self.inside.rows.items in
    rw (← c.self.view_is) (
      λ empty. no_parts items (let none : vec_len c.self.inside.rows ≡ 0 = eqb-true _ 0 (sym c.is_empty.ensures ∙ empty) in omega (arith, none)),
      λ no_parts. c.is_empty.ensures ∙ eq-eqb (vec_len c.self.inside.rows) 0 (let none = no_entries items no_parts in omega (arith, none)),
    )
