use Rattle.std.proofs.Common.{subst, sym}
use Rattle.command_arguments.specs.declared.reports.ListForm.{ListForm}
use Rattle.read_commands.specs.AskedUndone.{ListUndone}
use Rattle.read_commands.proofs.dispatch.list.Goals as goal

pub returns-in-Short-clause-undone : goal.returns-in-Short-clause-undone
returns-in-Short-clause-undone g c = λ some.
    let run = c.run_list_named-status in
    (run.result.1, subst (λ (form : ListForm). ListUndone g.D.SectorDevice form c.args.arguments.scope c.args.opened run.result.1 run.result.0) (sym c.in-Short.is) (run.ensures.undone some))

pub returns-in-Long-clause-undone : goal.returns-in-Long-clause-undone
returns-in-Long-clause-undone g c = λ some.
    let run = c.run_long_list in
    (run.new.opened, subst (λ (form : ListForm). ListUndone g.D.SectorDevice form c.args.arguments.scope c.args.opened run.new.opened run.result) (sym c.in-Long.is) (run.ensures.undone some))

pub returns-in-Json-clause-undone : goal.returns-in-Json-clause-undone
returns-in-Json-clause-undone g c = λ some.
    let run = c.run_json_list in
    (run.new.opened, subst (λ (form : ListForm). ListUndone g.D.SectorDevice form c.args.arguments.scope c.args.opened run.new.opened run.result) (sym c.in-Json.is) (run.ensures.undone some))
