use Rattle.std.proofs.Common.{ℕ, List, sym, subst}
use Rattle.object_names.specs.NameTables.{IsNamed}
use Rattle.object_names.proofs.NameClients.{found_some, named_7, renamed_7}
use Rattle.object_names.proofs.clients.a_name_that_is_written_is_found.Goals as goal

pub returns-in-Ok : goal.returns-in-Ok
returns-in-Ok c =
    let renamed = renamed_7 c.slots_change_one_name.ensures c.args.before.now c.args.after c.args.name.now c.requires.table c.requires.name c.requires.unused c.requires.written in
    let named = named_7 c.args.before.now c.args.after c.args.name.now c.requires.name renamed in
    found_some _ c.args.name.now 7 c.find.result c.find.ensures.only c.find.ensures.none
    (subst (λ (bytes : List ℕ). IsNamed bytes 7 c.args.name.now) (sym c.in-Ok.ensures.table.0) named)

pub returns-in-Err : goal.returns-in-Err
returns-in-Err c =
    absurd (c.in-Err.ensures.refused
    (renamed_7 c.slots_change_one_name.ensures c.args.before.now c.args.after c.args.name.now c.requires.table c.requires.name c.requires.unused c.requires.written).table)
