use Rattle.std.proofs.Common.{None, Some}
use Rattle.read_commands.proofs.NamedUndone.{none_found, table_found, table_refused}
use Rattle.read_commands.proofs.OpenedReads.{name_found, name_found_checked}
use Rattle.read_commands.proofs.named_gets.find_object.Goals as goal

pub returns-in-Ok-Some-clause-found : goal.returns-in-Ok-Some-clause-found
returns-in-Ok-Some-clause-found g c = λ assured.
    name_found _ c.in-Ok-Some.table c.args.name.now c.read_table-table.result.0 c.in-Ok-Some.field-0 c.find.result c.in-Ok-Some.is c.in-Ok-Some.field-0-is (c.read_table-table.ensures.table assured) c.find.ensures.found

pub returns-in-Ok-Some-clause-checked : goal.returns-in-Ok-Some-clause-checked
returns-in-Ok-Some-clause-checked g c = λ path keeps.
    name_found_checked _ c.in-Ok-Some.table c.args.name.now c.read_table-table.result.0 c.in-Ok-Some.field-0 c.find.result c.in-Ok-Some.is c.in-Ok-Some.field-0-is (c.read_table-table.ensures.checked path keeps) c.find.ensures.found

pub returns-in-Ok-Some-clause-failed : goal.returns-in-Ok-Some-clause-failed
returns-in-Ok-Some-clause-failed g c =
    let D = g.D.SectorDevice in
    let look = c.read_table-table in
    none_found D c.args.scope c.args.device look.result.1 c.args.name.now c.in-Ok-Some.table c.find.result
    (table_found D c.args.scope c.args.device look.result.1 look.result.0 c.in-Ok-Some.field-0 (Some c.in-Ok-Some.table) c.in-Ok-Some.is c.in-Ok-Some.field-0-is look.ensures.table look.ensures.checked) c.find.ensures.unknown

pub returns-in-Ok-None-clause-failed : goal.returns-in-Ok-None-clause-failed
returns-in-Ok-None-clause-failed g c =
    let look = c.read_table-table in
    table_found g.D.SectorDevice c.args.scope c.args.device look.result.1 look.result.0 c.in-Ok-None.field-0 None c.in-Ok-None.is c.in-Ok-None.field-0-is look.ensures.table look.ensures.checked

pub returns-in-Err-clause-failed : goal.returns-in-Err-clause-failed
returns-in-Err-clause-failed g c =
    let look = c.read_table-table in
    table_refused g.D.SectorDevice c.args.scope c.args.device look.result.1 c.args.name.now look.result.0 c.in-Err.refusal c.of_pool-failure.result c.in-Err.is look.ensures.refused c.of_pool-failure.ensures.cause
